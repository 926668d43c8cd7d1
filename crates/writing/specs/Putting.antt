-- What a line that is laid in a lent buffer has room for, and what is put in it.
use Rattle.std.specs.Prelude.{ℕ, ◌+◌, ◌≡◌, ◌≤◌, List, length}
use Rattle.buffers.specs.Copy.{copied}
use Rattle.writing.specs.declared.Line.{Line}

-- a text fits behind what has been put
pub record HasRoom (line : Line) (text : List ℕ) : Type 0 where
  pub fits : line.at + length text ≤ length line.buffer.now

-- a text that fits is put behind it, and the next byte goes behind that
pub record Put (before : Line) (text : List ℕ) (after : Line) : Type 0 where
  pub fits : before.at + length text ≤ length before.buffer.now
  pub next : after.at ≡ before.at + length text
  pub laid : after.buffer.now ≡ copied before.buffer.now before.at text
  pub same_length : length after.buffer.now ≡ length before.buffer.now
  pub same_buffer : after.buffer.ghost_name ≡ before.buffer.ghost_name
