-- What the keyed reader promises of every key and text: 4/13.
use Rattle.std.specs.Prelude.{ℕ, ◌-◌, ◌≤◌, ◌≡◌, ◌↔◌, ◌⊎◌, List, [], ◌∷◌, ◌++◌, length, take}
use Rattle.refusal.specs.Table.{accepted}
use Rattle.units.specs.Units.{longest}
use Rattle.lines.specs.declared.Entry.{Entry}
use Rattle.mac.specs.Hmac.{hmac}
use Rattle.session.specs.declared.Session.{Session}
use Rattle.sheet.specs.Judging.{sheet_of}
use Rattle.sheet.specs.declared.Sheet.{Sheet}
use Rattle.sheet.specs.declared.Verdict.{Verdict}
use Rattle.sheet_promises.specs.Grammar.{IsDigest, IsSheet}
use Rattle.sheet_promises.specs.Promises.{Lists}
use Rattle.keyed.specs.Keyed.{mac_number, covered, keyed_verdict, keyed_of}
use Rattle.keyed_promises.specs.Grammar.{IsMacLine, LineBegins, EndsInMac, IsKeyedSheet}
use Rattle.keyed_promises.specs.Answers.{MacRow, Answered}

-- accepted exactly when the key has at most 2^61 - 1 bytes and the text is a keyed sheet: of any reader
abbrev pub AcceptsOf : (reading : (key text : List ℕ) → Sheet) → Type 0
AcceptsOf reading =
    (key text : List ℕ)
    → ((reading key text).verdict.number ≡ accepted)
    ↔ ((length key ≤ longest) × ((es : List Entry) × IsKeyedSheet key text es))

pub record Promises : Type 0 where
  -- the words of the grammar, spelled out: "`MAC`, tab, 64 hex characters"; behind what a line begins; "ends with one more line"
  pub mac_line_lem :
      (line code : List ℕ)
      → IsMacLine line code
      ↔ ((characters : List ℕ) × IsDigest characters code × (line ≡ 0x4d ∷ 0x41 ∷ 0x43 ∷ 9 ∷ (characters ++ (10 ∷ []))))
  pub begins : (bytes : List ℕ) → LineBegins bytes ↔ ((bytes ≡ []) ⊎ ((front : List ℕ) × (bytes ≡ front ++ (10 ∷ []))))
  pub ends :
      (text bytes code : List ℕ)
      → EndsInMac text bytes code ↔ ((line : List ℕ) × IsMacLine line code × LineBegins bytes × (text ≡ bytes ++ line))
  pub keyed :
      (key text : List ℕ) (es : List Entry)
      → IsKeyedSheet key text es
      ↔ ((bytes : List ℕ) × (line : List ℕ) × IsSheet bytes es × IsMacLine line (hmac key bytes) × (text ≡ bytes ++ line))
  -- what is answered and left is exactly what a row says
  pub answers :
      (key text : List ℕ) (verdict : Verdict) (session : Session)
      → ((verdict ≡ (keyed_of key text).verdict) × (session ≡ (keyed_of key text).session)) ↔ Answered key text verdict session
  -- and so is the number of key, MAC line and code
  pub mac_numbers : (key text : List ℕ) (number : ℕ) → (number ≡ mac_number key text) ↔ MacRow key text number
  -- what is read as a sheet then: "all bytes before that line", which are all but the last 69; none of them where that number is a refusal,
  -- which is the verdict then
  pub covers : (text : List ℕ) → covered text 0 ≡ take (length text - 69) text
  pub covers_none : (text : List ℕ) (number : ℕ) → (number ≡ 0 → ⊥) → covered text number ≡ []
  pub passes : (v : Verdict) → keyed_verdict 0 v ≡ v
  pub passes_no_more : (number : ℕ) (v : Verdict) → (number ≡ 0 → ⊥) → keyed_verdict number v ≡ record { number = number; line = 0 }
  -- "The keyed reader accepts exactly when the MAC line is well formed, the code fits, and the rest is an accepted sheet"; and the key is
  -- not refused
  pub accepts : AcceptsOf keyed_of
  -- "whose session it then gives"
  pub same_session :
      (key text : List ℕ) (es : List Entry) → length key ≤ longest
      → (s : IsKeyedSheet key text es)
      → keyed_of key text ≡ sheet_of s.bytes
  -- no note of a refused text is listed
  pub none_listed_lem : (key text : List ℕ) → ((keyed_of key text).verdict.number ≡ accepted → ⊥) → Lists (keyed_of key text).session []
  -- a text ends in a MAC line in one way only, and that line has 69 bytes
  pub one_reading :
      (text bytes others code other : List ℕ) → EndsInMac text bytes code → EndsInMac text others other → (bytes ≡ others) × (code ≡ other)
  pub mac_size : (text bytes code : List ℕ) → (m : EndsInMac text bytes code) → (length m.line ≡ 69) × (length code ≡ 32)
  -- a keyed sheet has at most 3,233 bytes and its MAC line
  pub size : (key text : List ℕ) (es : List Entry) → IsKeyedSheet key text es → length text ≤ 3302
