use Rattle.call_reader.proofs.Cited.{subst, IfSome, AreListsRead}
use Rattle.std.proofs.lemmas.Result.{IfOk-at_ok}
use Rattle.call_reader.proofs.NestedPieces.{both_read}
use Rattle.call_reader.proofs.nested_pieces.+halves.Goals as goal

pub returns-in-Some-Some : goal.returns-in-Some-Some
returns-in-Some-Some g t c =
    let pieces = c.cut_at_list.result in
    let front = IfOk-at_ok (λ o. IfSome o (λ l. AreListsRead pieces.0.now l.rest.now l.numbers.items l.lengths.items)) c.in_ok-front.was c.join-front.ensures.first in
    let back = IfOk-at_ok (λ o. IfSome o (λ l. AreListsRead pieces.1.now l.rest.now l.numbers.items l.lengths.items)) c.in_ok-back.was c.join-front.ensures.second in
    both_read (λ l. l.rest.now) (λ l. l.numbers.items) (λ l. l.lengths.items) c.both.result c.args.bytes.now pieces.0.now pieces.1.now _ _ _ _ _ _
    c.cut_at_list.ensures.whole c.cut_at_list.ensures.between
    (subst (λ o. IfSome o (λ l. AreListsRead pieces.0.now l.rest.now l.numbers.items l.lengths.items)) c.in-Some-Some.is-0 front)
    (subst (λ o. IfSome o (λ l. AreListsRead pieces.1.now l.rest.now l.numbers.items l.lengths.items)) c.in-Some-Some.is-1 back)
    c.both.ensures.whole c.both.ensures.numbers c.both.ensures.lengths c.both.ensures.rest
