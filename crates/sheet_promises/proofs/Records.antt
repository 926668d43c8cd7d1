-- What the lines of a sheet say obeys rules 3 and 4, and each digest is of 32 bytes. Assumes nothing.
use Prim.Native.Nat.{ℕ}
use mathlib.Core.Path.{◌≡◌}
use mathlib.Core.List.{List}
use mathlib.Core.Bool.{true}
use native.Mathlib.Omega.{arith}
use lib.ListN.{length}
use Rattle.truth.proofs.Tests.{both}
use Rattle.rules.specs.Rules.{obeys}
use Rattle.lines.specs.declared.Entry.{Entry}
use Rattle.sheet_promises.specs.Grammar.{no_line, no_entry_lem, IsDigest, IsLine, Lines, line, ObeysRules, AllObey, entry}
use Rattle.sheet_promises.specs.Promises.{Among, first, further}
use Rattle.sheet_promises.proofs.Digests.{two_a_byte}

digest_size : (text : List ℕ) (e : Entry) → IsLine text e → length e.sample.digest ≡ 32
unfolding IsDigest
digest_size text e l = omega (arith, two_a_byte l.digest e.sample.digest l.is_digest.0, l.is_digest.1)

pub record_obeys : (last : ℕ) (e : Entry) → ObeysRules last e → obeys e.sample ≡ true
unfolding obeys
record_obeys last e o = both _ _ o.length_rule_lem o.loop_rule_lem

pub digest_of : (text : List ℕ) (es : List Entry) → Lines text es → (e : Entry) → Among e es → length e.sample.digest ≡ 32
digest_of _ _ no_line e among = elim among [ ]
digest_of text es (line {text = piece} l ls) e first = digest_size piece e l
digest_of text es (line {rest = rest} {es = more} l ls) e (further a) = digest_of rest more ls e a

pub rules_of : (last : ℕ) (es : List Entry) → AllObey last es → (e : Entry) → Among e es → obeys e.sample ≡ true
rules_of _ _ (no_entry_lem {last = last}) e among = elim among [ ]
rules_of last es (entry o os) e first = record_obeys last e o
rules_of last es (entry {e = d} {es = more} o os) e (further a) = rules_of d.note more os e a
