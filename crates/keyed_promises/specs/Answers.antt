-- What the keyed reader answers and leaves, row by row, in the order of 4/13: "10 for the key, 17, 10 for the text, 18, then 1 to 4; the
-- first four return line 0 and a session with no note listed". Each row says when it holds, and of any key and text just one does. No
-- reader is in it.
use Rattle.std.specs.Prelude.{ℕ, ◌+◌, ◌<◌, ◌≤◌, ◌≡◌, List, [], length}
use Rattle.units.specs.Units.{longest}
use Rattle.lines.specs.declared.Entry.{Entry}
use Rattle.mac.specs.Hmac.{hmac}
use Rattle.session.specs.declared.Session.{Session}
use Rattle.sheet.specs.declared.Verdict.{Verdict}
use Rattle.sheet_promises.specs.Faults.{Refused}
use Rattle.sheet_promises.specs.Promises.{Lists}
use Rattle.keyed_promises.specs.Grammar.{EndsInMac, IsKeyedSheet}

-- key, MAC line and code: the number of the first that is refused, and 0 where the code fits
pub data MacRow (key text : List ℕ) : (number : ℕ) → Type 0 where
  -- "10 for a key above 2^61 - 1 bytes"
  long_key : longest < length key → MacRow key text 10
  -- "17, MAC line missing or ill formed": the text is no bytes with a MAC line behind them
  no_mac_line_row : length key ≤ longest → ((bytes code : List ℕ) → EndsInMac text bytes code → ⊥) → MacRow key text 17
  -- "10 for .. a message that passes it with its inner 64-byte block counted"
  long_text :
      (bytes code : List ℕ)
      → length key ≤ longest
      → EndsInMac text bytes code
      → longest < 64 + length bytes
      → MacRow key text 10
  -- "18, code doesn't fit"
  other_code_row :
      (bytes code : List ℕ)
      → length key ≤ longest
      → EndsInMac text bytes code
      → 64 + length bytes ≤ longest
      → (code ≡ hmac key bytes → ⊥)
      → MacRow key text 18
  code_fits :
      (bytes : List ℕ)
      → length key ≤ longest
      → EndsInMac text bytes (hmac key bytes)
      → 64 + length bytes ≤ longest
      → MacRow key text 0

pub data Answered (key text : List ℕ) : (verdict : Verdict) (session : Session) → Type 0 where
  -- "the first four return line 0 and a session with no note listed"
  mac_refused :
      {s : Session} {number : ℕ}
      → MacRow key text number
      → (number ≡ 0 → ⊥)
      → Lists s []
      → Answered key text (record { number = number; line = 0 }) s
  -- "then 1 to 4": with the line of the sheet
  bad_sheet :
      {s : Session} (bytes : List ℕ) (number line : ℕ)
      → length key ≤ longest
      → EndsInMac text bytes (hmac key bytes)
      → 64 + length bytes ≤ longest
      → Refused bytes number line
      → Lists s []
      → Answered key text (record { number = number; line = line }) s
  -- accepted: "the rest is an accepted sheet, whose session it then gives". (A sheet has at most 3,233 bytes, so no limit is asked.)
  is_read :
      {s : Session} (es : List Entry)
      → length key ≤ longest
      → IsKeyedSheet key text es
      → Lists s es
      → Answered key text (record { number = 0; line = 0 }) s
