-- `log_text::text::put_refusal` meets its contract.
use mathlib.Core.Path.{refl}
use Rattle.log_text.specs.Answer.{refused_byte}
use Rattle.log_text.proofs.Putting.{two-written}
use Rattle.log_text.proofs.text.put_refusal.Goals as goal

pub returns : goal.returns
returns c = record {
  count = refl;
  leaves = two-written c.args.out.now 0 refused_byte
      c.args.number
      c.requires
      c.put_byte.ensures c.put_byte-2.ensures;
}
