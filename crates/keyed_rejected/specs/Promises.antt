-- 4/13's wrong programs, each refuted by the promise that it breaks: a code that is constant, that ignores the key, that ignores the
-- message; a keyed reader that refuses everything, that accepts everything, that ignores the key. And the example that refutes them.
use Rattle.std.specs.Prelude.{ℕ, ◌≡◌, List, []}
use Rattle.refusal.specs.Table.{accepted}
use Rattle.hash.specs.declared.Digest.{Digest}
use Rattle.mac.specs.Hmac.{hmac}
use Rattle.mac.specs.Promises.{AnyCuttingOf, CodesOf}
use Rattle.mac.specs.declared.Code.{Code}
use Rattle.mac.specs.declared.CodeUpdated.{CodeUpdated}
use Rattle.sheet.specs.declared.Sheet.{Sheet}
use Rattle.sheet_promises.specs.Promises.{Lists}
use Rattle.rejected.specs.Example.{text, notes}
use Rattle.keyed.specs.Keyed.{keyed_of}
use Rattle.keyed_promises.specs.Grammar.{IsKeyedSheet}
use Rattle.keyed_promises.specs.Promises.{AcceptsOf}
use Rattle.keyed_rejected.specs.Example.{key, other_key, code, code_by_other, code_of_none, keyed_text, line_alone, not_begun}

-- the definition of HMAC, run
pub record Run : Type 0 where
  pub example : hmac key text ≡ code
  pub by_other : hmac other_key text ≡ code_by_other
  pub of_none : hmac key [] ≡ code_of_none

pub record Promises : Type 0 where
  pub run : Run
  -- the example is a keyed sheet, is accepted with its key, and lists the sheet's notes; with the other key it is refused (18)
  pub is_keyed_sheet : IsKeyedSheet key keyed_text notes
  pub is_accepted : (keyed_of key keyed_text).verdict ≡ record { number = 0; line = 0 }
  pub lists : Lists (keyed_of key keyed_text).session notes
  pub other_refused : (keyed_of other_key keyed_text).verdict ≡ record { number = 18; line = 0 }
  pub other_lists : Lists (keyed_of other_key keyed_text).session []
  -- a MAC line alone is well formed: with the code of no bytes the empty sheet is refused, 1 at line 1; and one that does not begin a line
  -- is none (17)
  pub line_alone_lem : (keyed_of key line_alone).verdict ≡ record { number = 1; line = 1 }
  pub not_begun_lem : (keyed_of key not_begun).verdict ≡ record { number = 17; line = 0 }
  -- a code that is constant, by pieces and in one call
  pub constant :
      (starting : List ℕ → CodeUpdated) (updating : Code → List ℕ → CodeUpdated) (d : Digest)
      → AnyCuttingOf starting updating (λ c. d) → ⊥
  pub constant_call : (d : Digest) → CodesOf (λ key message. d) → ⊥
  -- one that ignores the key
  pub no_key :
      (starting : List ℕ → CodeUpdated) (updating : Code → List ℕ → CodeUpdated) (finishing : Code → Digest)
      → ((key other : List ℕ) → (starting key).state ≡ (starting other).state)
      → AnyCuttingOf starting updating finishing → ⊥
  pub no_key_call :
      (coding : (key message : List ℕ) → Digest) → ((key other message : List ℕ) → coding key message ≡ coding other message)
      → CodesOf coding → ⊥
  -- one that ignores the message
  pub no_message :
      (starting : List ℕ → CodeUpdated) (updating : Code → List ℕ → CodeUpdated) (finishing : Code → Digest)
      → ((c : Code) (piece : List ℕ) → (updating c piece).state ≡ c)
      → AnyCuttingOf starting updating finishing → ⊥
  pub no_message_call :
      (coding : (key message : List ℕ) → Digest) → ((key message other : List ℕ) → coding key message ≡ coding key other)
      → CodesOf coding → ⊥
  -- a keyed reader that refuses every text, accepts every text, or goes by the text alone
  pub refuses_all :
      (reading : (key text : List ℕ) → Sheet) → ((key text : List ℕ) → (reading key text).verdict.number ≡ accepted → ⊥)
      → AcceptsOf reading → ⊥
  pub accepts_all :
      (reading : (key text : List ℕ) → Sheet) → ((key text : List ℕ) → (reading key text).verdict.number ≡ accepted)
      → AcceptsOf reading → ⊥
  pub reads_no_key :
      (reading : (key text : List ℕ) → Sheet) → ((key other text : List ℕ) → reading key text ≡ reading other text)
      → AcceptsOf reading → ⊥
