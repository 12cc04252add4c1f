-- One record, as the code takes it: by its bytes, and then by the state.
-- Assumes nothing.
use Prim.Native.Nat.{ℕ, ◌≤◌, ◌<◌}
use mathlib.Core.Path.{◌≡◌, sym, ap, subst, ◌∙◌}
use mathlib.Core.List.{List}
use native.Mathlib.Omega.{arith}
use Rattle.std.specs.Prelude.{Ok, Err}
use Rattle.terms.specs.Limits.{most_processes}
use Rattle.terms.specs.Numbers.{index_of}
use Rattle.terms.specs.Refusal.{if_accepted}
use Rattle.terms.proofs.RefusalLaws.{then_on, then_stop, if_accepted_lem, if_refused}
use Rattle.steps.specs.declared.Step.{Step}
use Rattle.steps.specs.Step.{step_refusal, step_fields, step_read}
use Rattle.steps.proofs.StepLaws.{AcceptedStep, step_said, step_was_read, step_was_refused}
use Rattle.model.specs.declared.Shape.{Shape}
use Rattle.model.specs.declared.State.{State}
use Rattle.model.specs.Run.{row_of, after, judge, record_refusal}
use Rattle.engine.specs.Walk.{Due}

module _ (u : Shape) (x : State) (s : List ℕ) where
  -- a refused record leaves the state
  pub stays : {k : ℕ} → (k ≡ 0 → ⊥) → k ≡ record_refusal u x s → x ≡ if_accepted (record_refusal u x s) (after u x (step_fields s)) x
  stays h e = sym (if_refused _ (λ z. h (e ∙ z)) _ _)

  -- refused by its bytes
  pub unread : {k : ℕ} → Err k ≡ step_read u.count s → k ≡ record_refusal u x s
  unfolding record_refusal
  unread e =
      let r = step_was_refused u.count s e in
      sym (then_stop _ (λ z. r.1 (sym r.0 ∙ z)) _ ∙ r.0)

  module _ {k : Step} (read : Ok k ≡ step_read u.count s) where
    fields : k ≡ step_fields s
    fields = (step_was_read u.count s read).1

    passed : step_refusal u.count s ≡ 0
    passed = (step_was_read u.count s read).0

    said : AcceptedStep u.count s
    said = step_said u.count s passed

    -- what the code's indices and sums need
    pub due : u.count ≤ most_processes → Due k
    due few =
        subst Due (sym fields)
        (record {
          numbered = record { least = said.limits.process_low; most = omega (arith, said.limits.process_high) };
          tick = said.limits.tick_high;
        })

    pub among : index_of k.process < u.count
    among = subst (λ (k : Step). index_of k.process < u.count) (sym fields) (omega (arith, said.limits.process_low, said.limits.process_high))

    -- then the state judges
    pub judged : {y : ℕ} → y ≡ judge u (row_of x k.process) x.newest k → y ≡ record_refusal u x s
    unfolding record_refusal
    judged e = e ∙ ap (λ (k : Step). judge u (row_of x k.process) x.newest k) fields ∙ sym (then_on _ _ passed)

    pub taken : 0 ≡ judge u (row_of x k.process) x.newest k → {t : State} → t ≡ after u x k
        → t ≡ if_accepted (record_refusal u x s) (after u x (step_fields s)) x
    taken e f = f ∙ ap (after u x) fields ∙ sym (if_accepted_lem _ (sym (judged e)) _ _)
