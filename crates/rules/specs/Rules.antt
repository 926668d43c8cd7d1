-- Rules 2 to 4: document 01, "The rank sheet", rule 4 as 2/13 changed it. A line is judged by all of them; a slot in order "obeys rules 3
-- and 4".
use Rattle.std.specs.Prelude.{ℕ, ◌/◌, ◌%◌, Bool, ◌&&◌, leb, ltb, eqb, replicate}
use Rattle.rules.specs.declared.Record.{Record}

-- "the number of notes n, 1..32"
unfoldable pub count_rule : (count : ℕ) → Bool
count_rule count = leb 1 count && leb count 32

-- "Notes are 1..32, rising strictly": the first half
unfoldable pub is_note : (note : ℕ) → Bool
is_note note = leb 1 note && leb note 32

-- both halves: above the note of the line before, or above 0
unfoldable pub note_rule : (last note : ℕ) → Bool
note_rule last note = is_note note && ltb last note

-- "Length is even, 2 to 4294967294"
unfoldable pub length_rule : (bytes : ℕ) → Bool
length_rule bytes = eqb (bytes % 2) 0 && leb 2 bytes && leb bytes 4294967294

-- 2/13: "The rule becomes start <= end < length/2": frames, and one frame is two bytes. The end is the last frame that sounds
unfoldable pub loop_rule : (bytes start end : ℕ) → Bool
loop_rule bytes start end = leb start end && ltb end (bytes / 2)

-- a record's length obeys rule 3, its loop rule 4, and it "obeys rules 3 and 4"
abbrev pub good_length : Record → Bool
good_length r = length_rule r.length

abbrev pub good_loop : Record → Bool
good_loop r = loop_rule r.length r.loop_start r.loop_end

unfoldable pub obeys : Record → Bool
obeys r = good_length r && good_loop r

-- "record zero"
unfoldable pub zero_record : Record
zero_record = record { length = 0; loop_start = 0; loop_end = 0; digest = replicate 32 0 }
