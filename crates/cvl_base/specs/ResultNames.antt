-- The names that a line binds: none, one or two.
-- Source: this library's script format.
use Rattle.std.specs.Prelude.{ℕ}
use Rattle.cvl_base.specs.declared.call.ResultNames.{ResultNames}
use Rattle.cvl_base.specs.declared.call.ResultNames.TheVariants as results

-- how many names a line binds
abbrev pub count_of_results : ResultNames → ℕ
count_of_results results.None = 0
count_of_results (results.One name) = 1
count_of_results (results.Two first second) = 2
