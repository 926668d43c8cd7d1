-- Reading a rank sheet's text by place: document 01, "The rank sheet". Each step says where it stopped and what it wanted there: the next
-- place and nothing where all was well, else the fault's place. A step goes on where the one before it stopped; behind a fault it answers
-- that fault.
use Rattle.std.specs.Prelude.{ℕ, ◌+◌, List, [], ◌∷◌, Bool, cond, ◌&&◌, ltb, eqb, length, get_or, Result, Ok, Err}
use Rattle.lines.specs.declared.Fault.{Fault}
use Rattle.lines.specs.declared.Wanted.{Wanted}
use Rattle.lines.specs.declared.Wanted.TheVariants
use Rattle.lines.specs.declared.Stop.{Stop}

-- what a step can want: nothing more; the word RANK or the edition; a number; a tab or line end; a digest's digit
abbrev pub nothing : ℕ
nothing = 0

abbrev pub word : ℕ
word = 1

abbrev pub number : ℕ
number = 2

abbrev pub separator : ℕ
separator = 3

abbrev pub digit : ℕ
digit = 4

-- "fields parted by one tab (9)", lines "each ended by LF (10)"
abbrev pub tab : ℕ
tab = 9

abbrev pub lf : ℕ
lf = 10

-- all was well, and the next place; or what was wanted, and where
abbrev pub good_stop : (next : ℕ) → Stop
good_stop next = record { wanted = nothing; at = next }

abbrev pub fault : (what at : ℕ) → Stop
fault what at = record { wanted = what; at = at }

abbrev pub is_good : Stop → Bool
is_good s = eqb s.wanted nothing

-- whether the text has a given byte at a place
unfoldable pub has_at : (text : List ℕ) (at byte : ℕ) → Bool
has_at text at byte = ltb at (length text) && eqb (get_or text at 0) byte

-- one given byte, and given bytes one after the other
unfoldable pub mark_at : (text : List ℕ) (at mark what : ℕ) → Stop
mark_at text at mark what = cond (has_at text at mark) (good_stop (at + 1)) (fault what at)

unfoldable pub word_at : (text : List ℕ) (at : ℕ) (letters : List ℕ) (what : ℕ) → Stop
word_at text at [] what = good_stop at
word_at text at (letter ∷ letters) what = cond (has_at text at letter) (word_at text (at + 1) letters what) (fault what at)

-- the same, where the step before it stopped
unfoldable pub mark_after : (text : List ℕ) (before : Stop) (mark what : ℕ) → Stop
mark_after text before mark what = cond (is_good before) (mark_at text before.at mark what) before

unfoldable pub word_after : (text : List ℕ) (before : Stop) (letters : List ℕ) (what : ℕ) → Stop
word_after text before letters what = cond (is_good before) (word_at text before.at letters what) before

-- what the code's steps answer, as a stop: what each wants, by its number
abbrev pub number_by : Wanted → ℕ
number_by TheVariants.Word = word
number_by TheVariants.Number = number
number_by TheVariants.Separator = separator
number_by TheVariants.Digit = digit

abbrev pub fault_of : Fault → Stop
fault_of f = fault (number_by f.wanted) f.at

abbrev pub stop_of : Result ℕ Fault → Stop
stop_of (Ok next) = good_stop next
stop_of (Err f) = fault_of f
