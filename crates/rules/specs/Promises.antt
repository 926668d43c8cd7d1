-- What the rules' tests tell, both ways. All of it is proved in proofs/Proved.antt.
use Rattle.std.specs.Prelude.{ℕ, ◌+◌, ◌*◌, ◌/◌, ◌%◌, ◌≤◌, ◌<◌, ◌≡◌, ◌↔◌, Bool, true, replicate}
use Rattle.rules.specs.Rules.{count_rule, is_note, note_rule, length_rule, loop_rule, good_length, good_loop, obeys, zero_record}
use Rattle.rules.specs.declared.Record.{Record}

-- a record that "obeys rules 3 and 4", in numbers: "Length is even, 2 to 4294967294", and 2/13: "start <= end < length/2"
pub record Obeyed (r : Record) : Type 0 where
  pub even : r.length % 2 ≡ 0
  pub at_least : 2 ≤ r.length
  pub at_most : r.length ≤ 4294967294
  pub forward : r.loop_start ≤ r.loop_end
  pub within : r.loop_end < r.length / 2

-- frame f is the bytes 2f and 2f + 1, counted from 0; it lies inside a sample of so many bytes when both do
pub record FrameInside (frame bytes : ℕ) : Type 0 where
  pub first : 2 * frame < bytes
  pub second : 2 * frame + 1 < bytes

-- a loop that plays some frame, and every frame from start to end, which is "the last frame that sounds", inside its sample
pub record PlaysInside (bytes start end : ℕ) : Type 0 where
  pub some : start ≤ end
  pub inside : (frame : ℕ) → start ≤ frame → frame ≤ end → FrameInside frame bytes

-- of any rule for loops: it allows those that play some frame and none outside the sample, all of them and no other
abbrev pub PlaysOf : (rule : (bytes start end : ℕ) → Bool) → Type 0
PlaysOf rule = (bytes start end : ℕ) → (rule bytes start end ≡ true) ↔ PlaysInside bytes start end

pub record Promises : Type 0 where
  -- "the number of notes n, 1..32"
  pub counts : (count : ℕ) → (count_rule count ≡ true) ↔ ((1 ≤ count) × (count ≤ 32))
  -- "Notes are 1..32, rising strictly"
  pub numbers : (note : ℕ) → (is_note note ≡ true) ↔ ((1 ≤ note) × (note ≤ 32))
  pub notes : (last note : ℕ) → (note_rule last note ≡ true) ↔ ((1 ≤ note) × (note ≤ 32) × (last < note))
  -- "Length is even, 2 to 4294967294"
  pub lengths : (bytes : ℕ) → (length_rule bytes ≡ true) ↔ ((bytes % 2 ≡ 0) × (2 ≤ bytes) × (bytes ≤ 4294967294))
  -- 2/13: "start <= end < length/2"
  pub loops : (bytes start end : ℕ) → (loop_rule bytes start end ≡ true) ↔ ((start ≤ end) × (end < bytes / 2))
  -- what it is for: no frame outside the sample is played, and no loop that keeps inside is refused
  pub plays : PlaysOf loop_rule
  -- a record's length, and its loop
  pub good_length_lem : (r : Record) → good_length r ≡ length_rule r.length
  pub good_loop_lem : (r : Record) → good_loop r ≡ loop_rule r.length r.loop_start r.loop_end
  -- a stored slot's record "obeys rules 3 and 4"
  pub obeyed : (r : Record) → (obeys r ≡ true) ↔ Obeyed r
  -- "record zero"
  pub zero : zero_record ≡ record { length = 0; loop_start = 0; loop_end = 0; digest = replicate 32 0 }
