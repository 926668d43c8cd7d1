-- What is read as a MAC line is one, and each MAC line is read. Assumes nothing.
use Prim.Native.Nat.{ℕ, ◌+◌}
use mathlib.Core.Path.{◌≡◌, refl, sym, ap}
use mathlib.Core.List.{List, [], ◌∷◌, ◌++◌}
use mathlib.Core.Bool.{true}
use native.Mathlib.Omega.{arith}
use lib.ListN.{length, drop, length-append}
use Rattle.lines.specs.declared.Stop.{Stop}
use Rattle.lines.specs.Reading.{word, separator, tab, lf, good_stop, is_good, mark_at, word_at, mark_after, word_after}
use Rattle.lines.specs.Fields.{DigestField, good_digest, digest_at, digest_after}
use Rattle.sheet_promises.specs.Grammar.{IsDigest}
use Rattle.sheet_promises.proofs.Standing.{Part, part_of, joins_at, front_part, back_part}
use Rattle.sheet_promises.proofs.Steps.{followed, mark_read, mark_stands, word_read, word_stands}
use Rattle.sheet_promises.proofs.Digests.{two_a_byte, digest_read, digest_stands}
use Rattle.keyed.specs.Keyed.{mac_line_at}
use Rattle.keyed_promises.specs.Grammar.{IsMacLine}

-- the word
abbrev letters : List ℕ
letters = 0x4d ∷ 0x41 ∷ 0x43 ∷ []

-- 69 bytes, with a code of 32
pub mac_length_lem : (line code : List ℕ) → IsMacLine line code → length line ≡ 69
unfolding IsDigest
mac_length_lem line code m = omega (arith, ap length m.whole, length-append m.characters (10 ∷ []), m.are_code.1)

pub code_length : (line code : List ℕ) → IsMacLine line code → length code ≡ 32
unfolding IsDigest
code_length line code m = omega (arith, two_a_byte m.characters code m.are_code.0, m.are_code.1)

-- a MAC line that stands at a place is read
pub mac_read : (text line rest code : List ℕ) (at : ℕ) → IsMacLine line code → drop at text ≡ line ++ rest
    → mac_line_at text at ≡ good_digest code (at + length line)
unfolding mac_line_at word_after mark_after digest_after
mac_read text line rest code at m stands =
    let s = rw m.whole at (part_of text line rest at stands) in
    let s₁ = back_part letters _ s in
    let s₂ = back_part (tab ∷ []) _ s₁ in
    let digits = front_part m.characters _ s₂ in
    let close = back_part m.characters _ s₂ in
    rw (
      word_read text letters at _ word (front_part letters _ s),
      mark_read text _ _ tab separator (front_part (tab ∷ []) _ s₁),
      digest_read text m.characters code _ _ m.are_code digits,
      mark_read text _ _ lf separator close,
    )
    (ap (λ (p : List ℕ). good_digest code (at + length p)) (sym m.whole))

-- the steps that it is read by
module _ (text : List ℕ) (at : ℕ) where
  abbrev mac : Stop
  mac = word_after text (good_stop at) letters word

  abbrev tabbed : Stop
  tabbed = mark_after text mac tab separator

  abbrev digits : DigestField
  digits = digest_after text tabbed

  abbrev close : Stop
  close = mark_after text digits.stop lf separator

-- what is read as a MAC line stands there
pub record MacStands (text : List ℕ) (at : ℕ) : Type 0 where
  pub piece : List ℕ
  pub is_mac_line : IsMacLine piece (mac_line_at text at).digest
  pub part : Part text at piece (mac_line_at text at).stop.at

module _ (text : List ℕ) (at : ℕ) (h : is_good (mac_line_at text at).stop ≡ true) where
  is_read : mac_line_at text at ≡ record { stop = close text at; digest = (digits text at).digest }
  unfolding mac_line_at
  is_read = refl

  closes : is_good (close text at) ≡ true
  closes = rw is_read at h

  closed : (is_good (digits text at).stop ≡ true) × (close text at ≡ mark_at text (digits text at).stop.at lf separator)
  unfolding mark_after
  closed = followed (λ s. s) (digits text at).stop _ _ refl closes

  digested : (is_good (tabbed text at) ≡ true) × (digits text at ≡ digest_at text (tabbed text at).at)
  unfolding digest_after
  digested = followed (λ (d : DigestField). d.stop) (tabbed text at) _ _ refl closed.0

  parted : (is_good (mac text at) ≡ true) × (tabbed text at ≡ mark_at text (mac text at).at tab separator)
  unfolding mark_after
  parted = followed (λ s. s) (mac text at) _ _ refl digested.0

  worded : mac text at ≡ word_at text at letters word
  unfolding word_after
  worded = refl

  pub mac_stands : MacStands text at
  mac_stands =
      let w = word_stands text letters at word (λ z. omega arith) (rw worded at parted.0) in
      let t = mark_stands text (mac text at).at tab separator (λ z. omega arith) (rw parted.1 at digested.0) in
      let d = digest_stands text (tabbed text at).at (rw digested.1 at closed.0) in
      let c = mark_stands text (digits text at).stop.at lf separator (λ z. omega arith) (rw closed.1 at closes) in
      let last : Part text (digits text at).stop.at (lf ∷ []) (close text at).at = rw closed.1 c in
      record {
        piece = 0x4d ∷ 0x41 ∷ 0x43 ∷ tab ∷ (d.piece ++ (lf ∷ []));
        is_mac_line = rw is_read (record { characters = d.piece; are_code = rw digested.1 d.is_digest; whole = refl });
        part =
            rw is_read
            (joins_at (ap (λ (s : Stop). s.at) worded) w
            (joins_at (ap (λ (s : Stop). s.at) parted.1) t (joins_at (ap (λ (x : DigestField). x.stop.at) digested.1) d.part last)));
      }
