use Rattle.permute_walks.proofs.Cited.{ℕ, ◌≡◌, ◌≤◌, ◌+◌, ◌*◌, ◌/◌, ◌++◌, ◌∙◌, ap, arith, drop, length, length-drop, length-replicate, length-take, words_for, sym, take, take-append-drop, refl}
use Rattle.permute_walks.proofs.Cited.{count_sent, last_senders, written_over}
use Rattle.permute_walks.proofs.LastSent.{lasts_both, length-last_senders}
use Rattle.permute_walks.proofs.Written.{count_both, count_within, unmarked_both, written_both}
use Rattle.permute_walks.proofs.owners.SendsSharedWorkU32.split.Goals as goal

pub returns : goal.returns
returns g c =
    let self = c.args.self.now in
    let source = self.source.now in
    let ds = g.D.Destinations.destinations self.destinations.now in
    let lowest = self.lowest in
    let out = c.args.out.now in
    let marks = c.args._marks.now in
    let words = c.share_of_first-words.result / 32 in
    let middle = words * 32 in
    let low = take middle out in
    let high = drop middle out in
    let within : middle ≤ length out = omega (arith, c.share_of_first-words.ensures.within) in
    let front_len : length low ≡ middle = omega (arith, length-take middle out, within) in
    let back_len = length-drop middle out in
    let all : length low + length high ≡ length out = omega (arith, front_len, back_len, within) in
    let unmarked = unmarked_both (length out) (length low) (length high) words marks _ _ c.requires.ready.1 refl refl (sym front_len) all in
    let lasts = λ (n : ℕ). last_senders 0 ds lowest n in
    let next = last_senders 0 ds (lowest + length low) (length high) in
    let at : lowest + middle ≡ lowest + length low = omega (arith, front_len) in
    record {
      within = (within, omega (arith, ap length c.requires.ready.1, length-replicate {A = ℕ} (words_for (length out)) 0, within));
      first = (omega (arith, c.requires.ready.0, front_len, within), unmarked.0);
      second = (omega (arith, c.requires.ready.0, back_len, within), unmarked.1);
      whole = λ new rest _ _ m k front back.
          let back_is : rest ≡ written_over source next high = back.0 ∙ ap (λ p. written_over source (last_senders 0 ds p (length high)) high) at in
          let back_count : k ≡ count_sent next = back.1 ∙ ap (λ p. count_sent (last_senders 0 ds p (length high))) at in (
            (λ i. front.0 i ++ back_is i) ∙ written_both source (lasts (length low)) next low high (length-last_senders 0 ds lowest (length low))
                ∙ (λ i. written_over source (lasts_both 0 ds lowest (length low) (length high) i) (take-append-drop middle out i))
                ∙ ap (λ (n : ℕ). written_over source (lasts n) out) all,
            omega (
              arith,
              front.1,
              back_count,
              count_both 0 ds lowest (length low) (length high),
              ap (λ (n : ℕ). count_sent (lasts n)) all,
              count_within 0 ds lowest (length out),
              c.requires.ready.0,
            ),
          );
    }
