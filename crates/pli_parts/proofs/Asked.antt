-- A part by what is asked for: the aggregate, its generation, and the subscripts given.
use Rattle.std.proofs.Common.{◌≡◌, ℕ, zero, suc, ◌-◌, ◌<◌, ◌≤◌, ℤ, Bool, true, false, List, [], length, map, take}
use Rattle.std.proofs.Common.{Option, Some, None, Result, Ok, Err, refl, sym, ap, subst, ◌∙◌, arith}
use Rattle.std.specs.Prelude.{Vec, is_some, nat_le, nat_lt, option_map, slice_get, unwrap_or, if◌then◌else◌}
use Rattle.std.specs.declared.alloc.Global.{Global}
use Rattle.std.proofs.lemmas.Bool.Decides.{nat_tests}
use Rattle.std.proofs.lemmas.List.{length-map, take-map}
use Rattle.pli_typing.specs.Signatures.{Bounds, capped}
use Rattle.pli_types.specs.Templates.{Template}
use Rattle.pli_types.specs.View.{pair_of}
use Rattle.pli_types.specs.declared.signature.Bounds.{Bounds as BoundsHeld}
use Rattle.pli_meaning.specs.Contents.{Shape, leaves_with}
use Rattle.pli_meaning.specs.Unreachable.{unreachable_leaf}
use Rattle.pli_serving.specs.Aggregates.{Aggregate, part_found, part_of_leaves, subscripts_given, subscripts_of}
use Rattle.pli_serving.specs.Finding.{Call, Found, Finding, FoundAt, NotLiving, NoArea, named}
use Rattle.pli_serving.specs.Outcomes.{then_found}
use Rattle.pli_serving.specs.Templates.{shape_at, shape_in}
use Rattle.pli_serving.specs.Values.{all_subscripts, leaf_place}
use Rattle.pli_signatures.specs.View.{leaf_in_force}
use Rattle.pli_signatures.specs.Whole.{leaf_in, place_in}
use Rattle.pli_signatures.specs.declared.element.LeafInForce.{LeafInForce}
use Rattle.pli_answering.specs.declared.reply.Refusal.{Refusal}
use Rattle.pli_answering.specs.declared.reply.Refusal.TheVariants as F
use Rattle.pli_values.specs.View.{name_of}
use Rattle.pli_aggregates.specs.Records.{found_in, generation_named, record_shown}
use Rattle.pli_aggregates.specs.declared.record.Aggregate.{Aggregate as AggregateHeld}
use Rattle.pli_parts.specs.Found.{IsPartIf, given_by, part_in}
use Rattle.pli_parts.specs.Leaves.{AreLeavesFound}
use Rattle.pli_parts.specs.declared.leaf.PartLeaf.{PartLeaf}
use Rattle.pli_parts.specs.declared.part.PartAsked.{PartAsked}
use Rattle.pli_parts.proofs.Parts.{part_at, part_behind, part_if, part_missing, part_not_given, part_there}

-- ---- subscripts

pub all_have : (n : ℕ) → true ≡ nat_le 0 n
all_have n = grind (arith, nat_tests)

pub given_known : (a : AggregateHeld) (s : Shape) (shape : Option Shape) (first given : ℕ) (l : LeafInForce) → shape ≡ Some s → Some (leaf_in_force l) ≡ leaf_in shape first a.extent
    → given_by (map pair_of l.bounds.items) a.place given ≡ subscripts_given (record_shown a s) first given
given_known a s shape first given l e h =
    let there : Some (leaf_in_force l) ≡ leaf_in (Some s) first a.extent = h ∙ ap (λ o. leaf_in o first a.extent) e in
    ap (λ o. given_by (unwrap_or o unreachable_leaf).bounds a.place given) there

pub given_unknown : (a : AggregateHeld) (s : Shape) (shape : Option Shape) (first given : ℕ) → shape ≡ Some s → None ≡ leaf_in shape first a.extent → given_by (map pair_of []) a.place given ≡ subscripts_given (record_shown a s) first given
given_unknown a s shape first given e h =
    let none : None ≡ leaf_in (Some s) first a.extent = h ∙ ap (λ o. leaf_in o first a.extent) e in
    ap (λ o. given_by (unwrap_or o unreachable_leaf).bounds a.place given) none

abbrev given_if : List Bounds → (place given : ℕ) → Bool → Option (List ℤ)
given_if bounds place given holds = if holds then subscripts_of place given bounds else None

pub none_given : (bounds : List BoundsHeld) (place given : ℕ) → length bounds < given → None ≡ given_by (map pair_of bounds) place given
none_given bounds place given h =
    let many = length-map bounds pair_of in
    let less : nat_le given (length (map pair_of bounds)) ≡ false = grind (arith, nat_tests, h, many) in
    sym (ap (given_if (map pair_of bounds) place given) less)

pub given_none : (bounds : List BoundsHeld) (place given : ℕ) → given ≡ 0 → Some [] ≡ given_by (map pair_of bounds) place given
given_none bounds place given e = sym (ap (given_by (map pair_of bounds) place) e ∙ ap (given_if (map pair_of bounds) place 0) (sym (all_have (length (map pair_of bounds)))))

pub given_some : (bounds : List BoundsHeld) (place given : ℕ) → given ≤ length bounds → (given ≡ 0 → ⊥) → slice_get (all_subscripts (map pair_of (take given bounds))) place ≡ given_by (map pair_of bounds) place given
given_some bounds place zero h n = absurd (n refl)
given_some bounds place (suc given) h n =
    let many = length-map bounds pair_of in
    let low : nat_le (suc given) (length (map pair_of bounds)) ≡ true = grind (arith, nat_tests, h, many) in
    ap (λ bs. slice_get (all_subscripts bs) place) (sym (take-map pair_of (suc given) bounds)) ∙ sym (ap (given_if (map pair_of bounds) place (suc given)) low)

-- ---- leaves

there_if : (t : Bool) (n : ℕ) → is_some (if t then Some n else None) ≡ t
there_if true n = refl
there_if false n = refl

pub has_so : (s : Shape) (shape : Option Shape) (count : ℕ) (o : Option ℕ) (z : ℤ) → 0 < count → shape ≡ Some s → o ≡ place_in shape (count - 1) z → is_some o ≡ nat_le count (length s.signature.leaves)
has_so s shape count o z h e f =
    ap is_some (f ∙ ap (λ o. place_in o (count - 1) z) e)
    ∙ there_if (nat_lt (count - 1) (length s.signature.leaves)) (capped (leaf_place (leaves_with z s) (count - 1)))
    ∙ by_last (length s.signature.leaves)
  where
    by_last : (n : ℕ) → nat_lt (count - 1) n ≡ nat_le count n
    by_last n = grind (arith, nat_tests, h)

pub has_none : (n count : ℕ) → count ≡ 0 → true ≡ nat_le count n
has_none n count e = all_have n ∙ ap (λ k. nat_le k n) (sym e)

-- ---- the part

pub part_known : (c : Call) (a : Aggregate) (f : Found) (first count given end : ℕ) (is : List ℤ) (r : Result (Option (Vec PartLeaf Global)) Refusal) → named c a.name a.signature ≡ FoundAt f → subscripts_given a first given ≡ Some is
    → nat_le first (length a.shape.signature.leaves) ≡ true → AreLeavesFound a.shape a.extent f is end first count r → IsPartIf c (part_of_leaves c a first count given) first count end r
part_known c a f first count given end is (Ok None) n e low l =
    part_at c a f first count given is n e ∙ ap (part_if c a f first count is) (part_missing c a f first count l.0 is l.1 l.2)
part_known c a f first count given end is (Ok (Some v)) n e low l =
    record {
      aggregate = a;
      generation = f;
      given = is;
      found = part_at c a f first count given is n e ∙ ap (part_if c a f first count is) (part_there c a f end first count is v.items l.0 l.1 (at_most first (length a.shape.signature.leaves) low));
      leaves = l.0;
      many = l.1;
    }
  where
    at_most : (m n : ℕ) → nat_le m n ≡ true → m ≤ n
    at_most m n e = grind (arith, nat_tests)
part_known c a f first count given end is (Err F.Memory) n e low l = tt
part_known c a f first count given end is (Err F.Bad) n e low l = l

-- a first leaf behind all
pub part_past : (c : Call) (a : Aggregate) (f : Found) (first count given : ℕ) → named c a.name a.signature ≡ FoundAt f → nat_le first (length a.shape.signature.leaves) ≡ false → part_of_leaves c a first count given ≡ None
part_past c a f first count given n e = go (subscripts_given a first given) refl
  where
    more : (m n : ℕ) → nat_le m n ≡ false → n < m
    more m n e = grind (arith, nat_tests)

    go : (o : Option (List ℤ)) → subscripts_given a first given ≡ o → part_of_leaves c a first count given ≡ None
    go None g = part_not_given c a first count given g
    go (Some is) g = part_at c a f first count given is n g ∙ ap (part_if c a f first count is) (part_behind c a f first count is (more first (length a.shape.signature.leaves) e))

-- no generation
pub part_unfound : (c : Call) (a : Aggregate) (first count given : ℕ) → found_in (named c a.name a.signature) ≡ None → part_of_leaves c a first count given ≡ None
part_unfound c a first count given e = go (subscripts_given a first given) (named c a.name a.signature) e
  where
    go : (o : Option (List ℤ)) (m : Finding) → found_in m ≡ None → then_found o (λ is. part_found c a (record { first = first; count = count }) is m) ≡ None
    go None m e = refl
    go (Some is) (FoundAt f) e = cc
    go (Some is) NotLiving e = refl
    go (Some is) NoArea e = refl

pub not_found : (o : Option Template) (s : Shape) (m : Finding) → shape_in o ≡ Some s → None ≡ (if is_some o then found_in m else None) → found_in m ≡ None
not_found None s m e h = cc
not_found (Some t) s m e h = sym h

pub none_named : (c : Call) (templates : List Template) (a : AggregateHeld) (s : Shape) (first count given : ℕ) → c.services.signatures ≡ templates → shape_at templates a.signature ≡ Some s → None ≡ generation_named c (name_of a.name) a.signature
    → part_of_leaves c (record_shown a s) first count given ≡ None
none_named c templates a s first count given t e h =
    part_unfound c (record_shown a s) first count given
    (not_found (slice_get c.services.signatures a.signature) s (named c (name_of a.name) a.signature) (ap (λ ts. shape_at ts a.signature) t ∙ e) h)

-- ---- the aggregate

pub whole_so : (c : Call) (w : PartAsked) (end : ℕ) (a : AggregateHeld) (o : Option Shape) (r : Result (Option (Vec PartLeaf Global)) Refusal) → is_some o ≡ true
    → ((s : Shape) → o ≡ Some s → IsPartIf c (part_of_leaves c (record_shown a s) w.first w.leaves w.given) w.first w.leaves end r) → IsPartIf c (part_in c (option_map (record_shown a) o) w) w.first w.leaves end r
whole_so c w end a None r e h = absurd (cc)
whole_so c w end a (Some s) r e h = h s refl

pub open_so : (c : Call) (w : PartAsked) (a : AggregateHeld) (o : Option Shape) → is_some o ≡ false → part_in c (option_map (record_shown a) o) w ≡ None
open_so c w a None e = refl
open_so c w a (Some s) e = cc

pub asked_so : (c : Call) (w : PartAsked) (end : ℕ) (o p : Option Aggregate) (r : Result (Option (Vec PartLeaf Global)) Refusal) → o ≡ p → IsPartIf c (part_in c p w) w.first w.leaves end r → IsPartIf c (part_in c o w) w.first w.leaves end r
asked_so c w end o p r e h = subst (λ q. IsPartIf c (part_in c q w) w.first w.leaves end r) (sym e) h
