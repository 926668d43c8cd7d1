-- `tail_answer` is the definition's answer: 10 where the length has no exact count of bits, 11 where the room is too small. Assumes nothing.
use Rattle.std.proofs.Common.{◌≡◌, ◌<◌, ◌≤◌, true, false, sym, ap, ◌∙◌, rules}
use Rattle.std.specs.Prelude.{Option, None, Some, is_some}
use Rattle.units.proofs.Exact.{few, many}
use Rattle.units.specs.Units.{longest, bits_of}
use Rattle.units.specs.declared.Bits.{Bits}
use Rattle.units.specs.declared.Bytes.{Bytes}
use Rattle.refusal.specs.Table.{wrote}
use Rattle.padding.proofs.Tails.{refused_long, refused_size, accepts}
use Rattle.padding.proofs.tail_answer.Goals as goal

past : (m : Bytes) (found : Option Bits) → found ≡ bits_of m → is_some found ≡ false → longest < m.0
past m None e h = many m (sym e)
past m (Some there) e h = cc

within : (m : Bytes) (found : Option Bits) → found ≡ bits_of m → is_some found ≡ true → m.0 ≤ longest
within m (Some there) e h = few m there (sym e)
within m None e h = cc

pub returns-then-is_none : goal.returns-then-is_none
returns-then-is_none c = sym (refused_long _ _ (past _ _ c.bits.ensures c.if-is_none.ensures))

pub returns-then-room-count : goal.returns-then-room-count
returns-then-room-count c = sym (refused_size _ _ (within _ _ c.bits.ensures c.if-is_none.ensures) (search rules))

pub returns : goal.returns
returns c = sym (accepts _ _ (within _ _ c.bits.ensures c.if-is_none.ensures) (search rules) ∙ ap wrote (sym c.tail_size-count.ensures))
