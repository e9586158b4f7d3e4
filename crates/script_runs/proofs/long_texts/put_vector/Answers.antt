use Rattle.std.proofs.Common.{ℕ, List, [], ◌∷◌, ◌++◌, append_assoc, subst, Ok}
use Rattle.std.proofs.lemmas.Result.{err_from_is_err_and}
use Rattle.value_texts.specs.Texts.{spaced}
use Rattle.script_runs.specs.Hosts.{Seen}
use Rattle.script_runs.specs.Sinks.{PutsAll}
use Rattle.script_runs.proofs.PutInParts.{IsPutUpTo, last_part, nothing_put, part_cut, part_put}
use Rattle.script_runs.proofs.long_texts.put_vector.Goals as goal

-- the bytes of `]` and of a line feed
abbrev end : List ℕ
end = 93 ∷ 10 ∷ []

-- the opening is put, and the texts of the elements and the end are left
opened : (opening texts : List ℕ) (a b : Seen) → PutsAll a opening (Ok tt) b → IsPutUpTo ((opening ++ texts) ++ end) (texts ++ end) a b
opened opening texts a b put =
    let whole : List ℕ = (opening ++ texts) ++ end in
    part_put whole opening (texts ++ end) a a b (subst (λ t. IsPutUpTo whole t a a) (append_assoc opening texts end) (nothing_put whole a)) put

pub returns-in_err-put_spaced : goal.returns-in_err-put_spaced
returns-in_err-put_spaced g c =
    let texts = spaced g.T.Written.text_of c.args.others.now in
    rw (err_from_is_err_and c.from_residual-in_err-put_spaced.result c.from_residual-in_err-put_spaced.ensures.1).1
    (part_cut _ texts end _ _ _ _ (opened c.args.opening.now texts _ _ c.in_ok-put_all.ensures) c.in_err-put_spaced.ensures)

pub returns : goal.returns
returns g c =
    let texts = spaced g.T.Written.text_of c.args.others.now in
    last_part _ end _ _ _ _
    (part_put _ texts end _ _ _ (opened c.args.opening.now texts _ _ c.in_ok-put_all.ensures) c.in_ok-put_spaced.ensures)
    c.put_all-2.ensures
