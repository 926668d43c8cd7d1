-- What loading and showing mean, proved: each definition is taken apart and put together again. Assumes nothing.
use Prim.Native.Nat.{ℕ, suc, ◌≤◌, ◌<◌}
use mathlib.Core.Path.{◌≡◌, refl}
use mathlib.Core.Logic.Iff
use mathlib.Core.Logic.{◌⊎◌, inl, inr}
use mathlib.Core.List.{List}
use lib.ListN.{length}
use Rattle.session.specs.Operations.{deliver, ask}
use Rattle.session.specs.declared.Session.{Session}
use Rattle.sheet.specs.Judging.{sheet_of}
use Rattle.report.specs.Report.{refused_line, report}
use Rattle.loader.specs.Loading.{FedWhole, begun, whole, Fed, even, shorter, NoteLoaded, listed, passed, LoadedTo, none, next, Loaded, ShownOf, refused, loaded}
use Rattle.program_promises.specs.Files.{Files}

module _ (note : ℕ) (s : Session) where
  abbrev OneWhole : Session → Type 0
  OneWhole t =
      (u : Session) × (piece : List ℕ)
      × FedWhole note s u × (length piece ≡ 4096) × ((deliver u note piece).answer.number ≡ 0) × (t ≡ (deliver u note piece).session)

  abbrev OneShorter : Session → Type 0
  OneShorter t =
      (u : Session) × (piece : List ℕ)
      × FedWhole note s u × (1 ≤ length piece) × (length piece < 4096) × ((deliver u note piece).answer.number ≡ 0)
      × (t ≡ (deliver u note piece).session)

  whole_is : (t : Session) → FedWhole note s t → (t ≡ s) ⊎ OneWhole t
  whole_is t begun = inl refl
  whole_is t (whole {t = u} w piece full good) = inr (u, piece, w, full, good, refl)

  is_whole : (t : Session) → (t ≡ s) ⊎ OneWhole t → FedWhole note s t
  is_whole t (inl e) = rw e begun
  is_whole t (inr (u, piece, w, full, good, e)) = rw e (whole w piece full good)

  fed_is : (t : Session) → Fed note s t → FedWhole note s t ⊎ OneShorter t
  fed_is t (even w) = inl w
  fed_is t (shorter {t = u} w piece some less good) = inr (u, piece, w, some, less, good, refl)

  is_fed : (t : Session) → FedWhole note s t ⊎ OneShorter t → Fed note s t
  is_fed t (inl w) = even w
  is_fed t (inr (u, piece, w, some, less, good, e)) = rw e (shorter w piece some less good)

  abbrev Passed : Session → Type 0
  Passed t = (((ask s note).number ≡ 0) × Fed note s t) ⊎ (((ask s note).number ≡ 0 → ⊥) × (t ≡ s))

  note_is : (t : Session) → NoteLoaded note s t → Passed t
  note_is t (listed good fed) = inl (good, fed)
  note_is t (passed bad) = inr (bad, refl)

  is_note_lem : (t : Session) → Passed t → NoteLoaded note s t
  is_note_lem t (inl (good, fed)) = listed good fed
  is_note_lem t (inr (bad, e)) = rw e (passed bad)

none_is : (s t : Session) → LoadedTo s 0 t → t ≡ s
none_is s t none = refl

next_is : (s u : Session) (n : ℕ) → LoadedTo s (suc n) u → (t : Session) × LoadedTo s n t × NoteLoaded (suc n) t u
next_is s u n (next {t = t} before l) = (t, before, l)

module _ (text : List ℕ) where
  abbrev Printed : List ℕ → Type 0
  Printed printed =
      (((sheet_of text).verdict.number ≡ 0 → ⊥) × (printed ≡ refused_line (sheet_of text).verdict.number (sheet_of text).verdict.line))
      ⊎ ((s : Session) × ((sheet_of text).verdict.number ≡ 0) × Loaded (sheet_of text).session s × (printed ≡ report s))

  shown_is : (printed : List ℕ) → ShownOf text printed → Printed printed
  shown_is printed (refused bad) = inl (bad, refl)
  shown_is printed (loaded {s = s} good l) = inr (s, good, l, refl)

  is_shown : (printed : List ℕ) → Printed printed → ShownOf text printed
  is_shown printed (inl (bad, e)) = rw e (refused bad)
  is_shown printed (inr (s, good, l, e)) = rw e (loaded good l)

pub files : Files
files =
    record {
      fed_whole = λ note s t. (whole_is note s t, is_whole note s t);
      fed = λ note s t. (fed_is note s t, is_fed note s t);
      note_loaded = λ note s t. (note_is note s t, is_note_lem note s t);
      loaded_none = λ s t. (none_is s t, λ e. rw e none);
      loaded_next = λ s u n. (next_is s u n, λ p. next p.1 p.2);
      loaded_all = λ s t. Iff.rfl;
      shown_of = λ text printed. (shown_is text printed, is_shown text printed);
      shown = λ t. (λ h. (h.text, h.first, h.shows, h.within), λ p. record { text = p.0; first = p.1; shows = p.2; within = p.3 });
    }
