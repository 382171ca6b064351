-- `words::word::count_word` meets its contract.
use Rattle.signed.proofs.Signed.{read_low}
use native.Mathlib.Omega.{arith}
use mir.Syntax.{w32}
use Prim.Native.Nat.{◌%◌}
use Rattle.words.proofs.word.count_word.Goals as goal

pub returns : goal.returns
returns c = read_low w32 (c.args.count % 65536) (omega arith)
