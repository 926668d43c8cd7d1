use Rattle.std.proofs.Common.{rules}
use Rattle.standard.proofs.HashValue.{all_laid}
use Rattle.standard.proofs.hash_value.Goals as goal

pub returns : goal.returns
returns c = search (all_laid, rules)
