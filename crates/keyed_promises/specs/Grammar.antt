-- What a keyed sheet is: 4/13. No reader is in it.
use Rattle.std.specs.Prelude.{ℕ, ◌≡◌, ◌⊎◌, List, [], ◌∷◌, ◌++◌}
use Rattle.lines.specs.declared.Entry.{Entry}
use Rattle.mac.specs.Hmac.{hmac}
use Rattle.sheet_promises.specs.Grammar.{IsDigest, IsSheet}

-- "one more line, `MAC`, tab, 64 hex characters", ended by LF as every line is; the characters are those of a digest, by the rule of `hex`
pub record IsMacLine (line code : List ℕ) : Type 0 where
  pub characters : List ℕ
  pub are_code : IsDigest characters code
  pub whole : line ≡ 0x4d ∷ 0x41 ∷ 0x43 ∷ 9 ∷ (characters ++ (10 ∷ []))

-- bytes behind which a line begins: none, or bytes that end with LF
unfoldable pub LineBegins : (bytes : List ℕ) → Type 0
LineBegins bytes = (bytes ≡ []) ⊎ ((front : List ℕ) × (bytes ≡ front ++ (10 ∷ [])))

-- "A keyed sheet ends with one more line": bytes, and behind them a MAC line, which has a code
pub record EndsInMac (text bytes code : List ℕ) : Type 0 where
  pub line : List ℕ
  pub is_mac_line : IsMacLine line code
  pub line_begins : LineBegins bytes
  pub whole : text ≡ bytes ++ line

-- "the MAC line is well formed, the code fits, and the rest is an accepted sheet": bytes that are a sheet, and a MAC line of their code
-- under the key, "covering all bytes before that line". (A sheet ends with LF, so a line begins behind it.)
pub record IsKeyedSheet (key text : List ℕ) (es : List Entry) : Type 0 where
  pub bytes : List ℕ
  pub line : List ℕ
  pub is_sheet : IsSheet bytes es
  pub is_mac_line : IsMacLine line (hmac key bytes)
  pub whole : text ≡ bytes ++ line
