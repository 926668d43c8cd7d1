-- Texts that are put together before they are written out.
use Rattle.std.specs.Prelude.{ℕ, ◌+◌, List, ◌++◌, cond, leb, length, take, drop, replicate}
use Rattle.buffers.specs.Copy.{copied}
use Rattle.texts.specs.declared.Text.{Text}

-- no byte yet
unfoldable pub empty_text : Text
empty_text = record { bytes = replicate 1024 0; length = 0 }

-- the text with a part behind it, where all of it fits; else the text as it was
unfoldable pub with_part : Text → (part : List ℕ) → Text
with_part t part =
    cond (leb (t.length + length part) 1024) (record { bytes = copied t.bytes t.length part; length = t.length + length part }) t

-- the text of so many bytes: they, and zeros in the rest of the room
unfoldable pub text_of : (bytes : List ℕ) → Text
text_of bytes = record { bytes = bytes ++ drop (length bytes) (replicate 1024 0); length = length bytes }

-- what a text says: what is written out of it
unfoldable pub said : Text → List ℕ
said t = take t.length t.bytes
