use Rattle.flag_merges.proofs.Packed as packed
use Rattle.flag_merges.proofs.merge_laws.merge_law.Goals as goal

pub returns-clause-packs_back : goal.returns-clause-packs_back
returns-clause-packs_back g c = packed.packs_back

pub returns-clause-merges_back : goal.returns-clause-merges_back
returns-clause-merges_back g c = packed.merges_back
