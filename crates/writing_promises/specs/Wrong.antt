-- Writers that must be rejected: the wrong ones that come to mind first.
use Rattle.std.specs.Prelude.{ℕ, ◌-◌, ◌≡◌, List, length, take, drop, replicate}
use Rattle.refusal.specs.Table.{accepted}
use Rattle.refusal.specs.declared.Written.{Written}
use Rattle.session.specs.declared.Session.{Session}

-- what a writer answers, and what it leaves in the buffer
abbrev pub Answering : Type 0
Answering = Session → (buffer : List ℕ) → Written

abbrev pub Leaving : Type 0
Leaving = Session → (buffer : List ℕ) → List ℕ

-- every session is refused; every one is accepted
abbrev pub RefusesAll : Answering → Type 0
RefusesAll answering = (s : Session) (buffer : List ℕ) → (answering s buffer).number ≡ accepted → ⊥

abbrev pub AcceptsAll : Answering → Type 0
AcceptsAll answering = (s : Session) (buffer : List ℕ) → (answering s buffer).number ≡ accepted

-- one text is written, whatever the session is
abbrev pub WritesOnly : (text : List ℕ) → Answering → Leaving → Type 0
WritesOnly text answering leaving =
    (s : Session) (buffer : List ℕ) → (answering s buffer).number ≡ accepted
    → take (answering s buffer).count (leaving s buffer) ≡ text

-- the session is not looked at; how much room there is, is not looked at
abbrev pub IgnoresSession : Answering → Type 0
IgnoresSession answering = (s t : Session) (buffer : List ℕ) → answering s buffer ≡ answering t buffer

abbrev pub IgnoresRoom : Answering → Type 0
IgnoresRoom answering = (s : Session) (buffer other : List ℕ) → answering s buffer ≡ answering s other

-- a refused call changes the buffer; an accepted one clears what stands behind the sheet
abbrev pub ChangesRefused : Answering → Leaving → Type 0
ChangesRefused answering leaving =
    (s : Session) (buffer : List ℕ) → ((answering s buffer).number ≡ accepted → ⊥) → leaving s buffer ≡ buffer → ⊥

abbrev pub ClearsBehind : Answering → Leaving → Type 0
ClearsBehind answering leaving =
    (s : Session) (buffer : List ℕ) → (answering s buffer).number ≡ accepted
    → drop (answering s buffer).count (leaving s buffer) ≡ replicate (length buffer - (answering s buffer).count) 0
