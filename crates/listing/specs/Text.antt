-- What the program prints for an input (01, "The program"), as ASCII bytes.
use Rattle.std.specs.Prelude.{ℕ, zero, suc, ◌+◌, ◌*◌, ◌/◌, ◌%◌, ◌≤◌, cond, ◌≡◌, List, [], ◌∷◌, ◌++◌, ltb, length, take, get_or, replicate}
use Rattle.terms.specs.Limits.{most_processes}
use Rattle.terms.specs.Refusal.{if_accepted}
use Rattle.terms.specs.Overlay.{overlay}
use Rattle.records.specs.Record.{byte}
use Rattle.model.specs.Sizes.{line_width, report_width}
use Rattle.model.specs.Report.{Ran, ran_of}

-- `0`, the space and the newline
abbrev pub zero_digit : ℕ
zero_digit = 0x30

abbrev pub space : ℕ
space = 0x20

abbrev pub newline : ℕ
newline = 0x0A

-- the digits of a number below 10 ^ k, the highest first and no zero before them; and of any 32-bit number
unfoldable pub digits : ℕ → ℕ → List ℕ
digits zero x = []
digits (suc k) x = cond (ltb x 10) [] (digits k (x / 10)) ++ ((zero_digit + x % 10) ∷ [])

abbrev pub most_digits : ℕ
most_digits = 10

abbrev pub decimal : ℕ → List ℕ
decimal x = digits most_digits x

-- numbers with a space between them, and a newline
abbrev pub figures : List ℕ → List ℕ
figures [] = newline ∷ []
figures (x ∷ []) = decimal x ++ (newline ∷ [])
figures (x ∷ y ∷ ys) = decimal x ++ (space ∷ figures (y ∷ ys))

-- `kind `, ` processes `, ` records `, `refused `, ` at record `, and `input over 65536` with a newline
abbrev pub kind_word : List ℕ
kind_word = 107 ∷ 105 ∷ 110 ∷ 100 ∷ 32 ∷ []

abbrev pub processes_word : List ℕ
processes_word = 32 ∷ 112 ∷ 114 ∷ 111 ∷ 99 ∷ 101 ∷ 115 ∷ 115 ∷ 101 ∷ 115 ∷ 32 ∷ []

abbrev pub records_word : List ℕ
records_word = 32 ∷ 114 ∷ 101 ∷ 99 ∷ 111 ∷ 114 ∷ 100 ∷ 115 ∷ 32 ∷ []

abbrev pub refused_word : List ℕ
refused_word = 114 ∷ 101 ∷ 102 ∷ 117 ∷ 115 ∷ 101 ∷ 100 ∷ 32 ∷ []

abbrev pub at_record_word : List ℕ
at_record_word = 32 ∷ 97 ∷ 116 ∷ 32 ∷ 114 ∷ 101 ∷ 99 ∷ 111 ∷ 114 ∷ 100 ∷ 32 ∷ []

abbrev pub over_line : List ℕ
over_line = 105 ∷ 110 ∷ 112 ∷ 117 ∷ 116 ∷ 32 ∷ 111 ∷ 118 ∷ 101 ∷ 114 ∷ 32 ∷ 54 ∷ 53 ∷ 53 ∷ 51 ∷ 54 ∷ 10 ∷ []

-- `kind K processes N records R`
abbrev pub head_line : ℕ → ℕ → ℕ → List ℕ
head_line kind n accepted = kind_word ++ decimal kind ++ processes_word ++ decimal n ++ records_word ++ figures (accepted ∷ [])

-- `refused NO at record INDEX`
abbrev pub refused_line : ℕ → ℕ → List ℕ
refused_line number at = refused_word ++ decimal number ++ at_record_word ++ figures (at ∷ [])

-- number, place, second figure, moves, late writes, of the process at index j
abbrev pub process_line : List ℕ → ℕ → List ℕ
process_line report j =
    let at : ℕ = line_width * j in
    figures ((j + 1) ∷ get_or report at 0 ∷ get_or report (at + 1) 0 ∷ get_or report (at + 2) 0 ∷ get_or report (at + 3) 0 ∷ [])

-- the lines of the first k processes
unfoldable pub process_lines : List ℕ → ℕ → List ℕ
process_lines report zero = []
process_lines report (suc k) = process_lines report k ++ process_line report k

-- an accepted run, or a refused one
unfoldable pub ran_text : List ℕ → Ran → List ℕ
ran_text input ran =
    if_accepted ran.outcome.number
    (head_line (byte 2 input) (byte 3 input) ran.outcome.at ++ process_lines ran.report (byte 3 input))
    (refused_line ran.outcome.number ran.outcome.at)

abbrev pub most_input : ℕ
most_input = 65_536

unfoldable pub text_of : List ℕ → List ℕ
text_of input =
    cond (ltb most_input (length input)) over_line
    (ran_text input (ran_of most_processes input (replicate report_width 0)))

-- What the program's text leaves of a buffer that held `before`: the text's length is answered, and it lies over the buffer's front.
-- `within` follows, and spares a caller the proof that `&text[..r]` is a part.
pub record Listed (input before : List ℕ) (r : ℕ) (after : List ℕ) : Type 0 where
  pub len : r ≡ length (text_of input)
  pub text : after ≡ overlay (text_of input) before
  pub within : (r ≤ length after) × (r ≡ length (take r after))
