use Rattle.std.proofs.Common.{◌≡◌, ◌≤◌, ℕ, ◌+◌, ◌-◌, List, drop, length, take, sym, ap, subst, ◌∙◌, arith}
use Rattle.std.proofs.lemmas.List.{drop-drop, drop-take, length-take}
use Rattle.pli_edit.specs.Feeding.{Fed, Buffered}
use Rattle.pli_edit.proofs.feed_bytes.FeedBytes.pass.Goals as goal

passed : (p e n : ℕ) (s : List ℕ) → n ≤ length (take (e - p) (drop p s)) →
    take (e - (p + n)) (drop (p + n) s) ≡ drop n (take (e - p) (drop p s))
passed p e n s k =
    let few : n ≤ e - p = (let all = length-take (e - p) (drop p s) in omega (arith, all, k)) in
    let same : n + (e - (p + n)) ≡ e - p = omega (arith, few) in
    ap (take (e - (p + n))) (sym (drop-drop n p s))
    ∙ (sym (drop-take n (e - (p + n)) (drop p s)) ∙ ap (λ m. drop n (take m (drop p s))) same)

buffered : Fed → List ℕ → Buffered
buffered f l = record { fed = f; pending = l }

pub returns : goal.returns
unfolding buffered
returns g c =
    let b = c.self.inside in
    let f : Fed = record { history = g.F.Feed.history b.feed; standing = b.standing; left = b.left } in
    ap (buffered f) (passed b.place b.end c.args.count b.buffer
    (subst (λ (h : Buffered). c.args.count ≤ length h.pending) (sym c.self.view_is) c.requires))
    ∙ ap (λ (h : Buffered). buffered h.fed (drop c.args.count h.pending)) c.self.view_is
