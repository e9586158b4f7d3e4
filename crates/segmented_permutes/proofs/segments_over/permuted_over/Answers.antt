use Rattle.segmented_permutes.proofs.segments_over.permuted_over.Goals as goal

pub returns : goal.returns
returns g c = λ meaning call. c.elements_of_senders_over.ensures _ _ meaning c.segment_senders_alone-found.ensures.senders call
