-- Reading one thing after the other, as loops do.
use Rattle.std.proofs.Common.{◌≡◌, ℕ, suc, ◌+◌, ◌-◌, ◌<◌, ◌≤◌, List, Bool, true, false, cond, Option, Some, None, refl, ap, sym, ◌∙◌, arith}
use Rattle.rv_meaning.specs.Tables.{Shape, stands}
use Rattle.rv_image.specs.Reading.{◌>>=◌, pair_from, pairs_from, leaf_from, leaves_from}

-- so many were counted before
abbrev pub counted : ℕ → Option (ℕ × List ℕ) → Option (ℕ × List ℕ)
counted before read = read >>= λ x. Some (before + x.0, x.1)

abbrev pub one_if : Bool → ℕ
one_if b = cond b 1 0

pub one_if-le : (b : Bool) → one_if b ≤ 1
one_if-le true = omega arith
one_if-le false = omega arith

regroup : (before n : ℕ) (read : Option (ℕ × List ℕ)) → counted before (read >>= λ x. Some (n + x.0, x.1)) ≡ counted (before + n) read
regroup before n (Some x) = let e : before + (n + x.0) ≡ before + n + x.0 = omega arith in ap (λ (m : ℕ). Some (m, x.1)) e
regroup before n None = refl

pub pairs_go_on : (before count i : ℕ) (ws after : List ℕ) (t : Bool) (total : Option (ℕ × List ℕ)) → i < count → pair_from ws ≡ Some (t, after)
    → counted before (pairs_from (count - i) ws) ≡ total → counted (before + one_if t) (pairs_from (count - (i + 1)) after) ≡ total
unfolding pairs_from
pairs_go_on before count i ws after t total lt h so_far =
    let k : count - i ≡ suc (count - (i + 1)) = omega arith in
    let one : counted before (pairs_from (count - i) ws) ≡ counted (before + one_if t) (pairs_from (count - (i + 1)) after) = rw (k, h) (regroup before (one_if t) (pairs_from (count - (i + 1)) after)) in
    sym one ∙ so_far

pub pairs_end : (before count i : ℕ) (ws : List ℕ) (total : Option (ℕ × List ℕ)) → i < count → pair_from ws ≡ None → counted before (pairs_from (count - i) ws) ≡ total → total ≡ None
unfolding pairs_from
pairs_end before count i ws total lt h so_far =
    let k : count - i ≡ suc (count - (i + 1)) = omega arith in
    let one : counted before (pairs_from (count - i) ws) ≡ None = rw (k, h) refl in
    sym so_far ∙ one

pub pairs_done : (before count i : ℕ) (ws : List ℕ) (total : Option (ℕ × List ℕ)) → count ≤ i → counted before (pairs_from (count - i) ws) ≡ total → total ≡ Some (before, ws)
unfolding pairs_from
pairs_done before count i ws total le so_far =
    let k : count - i ≡ 0 = omega arith in
    let e : before + 0 ≡ before = omega arith in
    let one : counted before (pairs_from (count - i) ws) ≡ Some (before, ws) = rw k (ap (λ (m : ℕ). Some (m, ws)) e) in
    sym so_far ∙ one

pub leaves_go_on : (count refer i : ℕ) (ws after : List ℕ) (s : Shape) (total : Option (List ℕ)) → i < count → leaf_from ws ≡ Some (s, after) → stands count refer i s ≡ true
    → leaves_from (count - i) count refer i ws ≡ total → leaves_from (count - (i + 1)) count refer (i + 1) after ≡ total
unfolding leaves_from
leaves_go_on count refer i ws after s total lt h fits so_far =
    let k : count - i ≡ suc (count - (i + 1)) = omega arith in
    let place : i + 1 ≡ suc i = omega arith in
    let one : leaves_from (count - i) count refer i ws ≡ leaves_from (count - (i + 1)) count refer (suc i) after = rw (k, h, fits) refl in
    ap (λ (m : ℕ). leaves_from (count - (i + 1)) count refer m after) place ∙ sym one ∙ so_far

pub leaves_end : (count refer i : ℕ) (ws : List ℕ) (total : Option (List ℕ)) → i < count → leaf_from ws ≡ None → leaves_from (count - i) count refer i ws ≡ total → total ≡ None
unfolding leaves_from
leaves_end count refer i ws total lt h so_far =
    let k : count - i ≡ suc (count - (i + 1)) = omega arith in
    let one : leaves_from (count - i) count refer i ws ≡ None = rw (k, h) refl in
    sym so_far ∙ one

pub leaves_unfit : (count refer i : ℕ) (ws after : List ℕ) (s : Shape) (total : Option (List ℕ)) → i < count → leaf_from ws ≡ Some (s, after) → stands count refer i s ≡ false
    → leaves_from (count - i) count refer i ws ≡ total → total ≡ None
unfolding leaves_from
leaves_unfit count refer i ws after s total lt h fits so_far =
    let k : count - i ≡ suc (count - (i + 1)) = omega arith in
    let one : leaves_from (count - i) count refer i ws ≡ None = rw (k, h, fits) refl in
    sym so_far ∙ one

pub leaves_done : (count refer i : ℕ) (ws : List ℕ) (total : Option (List ℕ)) → count ≤ i → leaves_from (count - i) count refer i ws ≡ total → total ≡ Some ws
unfolding leaves_from
leaves_done count refer i ws total le so_far =
    let k : count - i ≡ 0 = omega arith in
    let one : leaves_from (count - i) count refer i ws ≡ Some ws = rw k refl in
    sym so_far ∙ one
