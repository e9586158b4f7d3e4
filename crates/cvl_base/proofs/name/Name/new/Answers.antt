use Rattle.std.proofs.Common.{sym, ◌∙◌}
use Rattle.cvl_base.proofs.Padding.{written_laid_out}
use Rattle.cvl_base.proofs.name.Name.new.Goals as goal

pub invariant_of-result : goal.invariant_of-result
invariant_of-result c =
    written_laid_out c.args.bytes.now c.copy_from_slice.new.self c.copy_from_slice.ensures.after
    (sym c.is_name_text.ensures ∙ c.if-not-is_name_text.false)
