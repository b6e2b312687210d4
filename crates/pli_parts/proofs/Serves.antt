-- Service 40 by the leaves of its part.
use Rattle.std.proofs.Common.{◌≡◌, ℕ, suc, ◌+◌, ℤ, Bool, true, false, List, [], ◌∷◌, length, map, take, drop, Option}
use Rattle.std.proofs.Common.{Some, None, Ok, ◌≤◌, refl, sym, ap, ap₂, subst, ◌∙◌, arith}
use Rattle.std.specs.Prelude.{◌==◌, MatchOption, Vec, option_map, ⊤, if◌then◌else◌}
use Rattle.std.specs.declared.alloc.Global.{Global}
use Rattle.std.specs.List.{list_all, range_with_len}
use Rattle.pli_typing.specs.Signatures.{Leaf}
use Rattle.pli_meaning.specs.Contents.{last_refers, leaves_refer, leaves_with}
use Rattle.pli_meaning.specs.Codes.{shape_code}
use Rattle.pli_meaning.specs.Evaluating.{Designated}
use Rattle.pli_meaning.specs.Placing.{all_same_bounds, bounds_left, part_bounds}
use Rattle.pli_serving.specs.Aggregates.{PartFound, aggregate_at, leaf_numbers, part_of_leaves}
use Rattle.pli_serving.specs.AggregateServices.{aggregate_served, assigned_by, goes_into, kind_of_nth, leaves_go_into}
use Rattle.pli_serving.specs.AggregateServices.{part_put, part_taken, stored_in, stores_of, taken_leaf}
use Rattle.pli_serving.specs.Answers.{Answer, Done, Bad}
use Rattle.pli_serving.specs.Finding.{Call}
use Rattle.pli_serving.specs.Outcomes.{answering, bad_unless, becoming, or_bad, pushed, then_found, with_entries}
use Rattle.pli_serving.specs.ServiceState as S
use Rattle.pli_serving.specs.ServiceState.{Entry, AggregateEntry}
use Rattle.pli_parts.specs.Found.{IsPart, IsPartIf, designated_from, part_asked}
use Rattle.pli_parts.specs.Leaves.{ArePartLeaves, AreReadable}
use Rattle.pli_parts.specs.Putting.{bounds_of, bounds_taken, go_into, leaves_put}
use Rattle.pli_parts.specs.Served.{entry_of, leaves_taken, taken_put}
use Rattle.pli_entries.specs.Kept.{leaf_of}
use Rattle.pli_parts.specs.Taking.{have_values, leaf_taken}
use Rattle.pli_parts.specs.declared.leaf.PartLeaf.{PartLeaf}
use Rattle.pli_entries.specs.declared.taken.TakenLeaf.{TakenLeaf}
use Rattle.pli_parts.specs.declared.part.PartAsked.{PartAsked}
use Rattle.pli_aggregates.proofs.Lists.{map_map}
use Rattle.pli_parts.proofs.Puts.{all_stored, as_many_bounds, bounds_known, kinds_known}
use Rattle.pli_parts.proofs.Takes.{all_have_values, all_readable, all_taken}

bad_or : {A B : Type 0} (o : Option A) (f : A → Option B) (g : B → Answer) → or_bad o (λ a. or_bad (f a) g) ≡ or_bad (then_found o f) g
bad_or None f g = refl
bad_or (Some a) f g = refl

-- by the part that is asked for
pub served_by : (c : Call) (w : PartAsked) (mode : ℕ) → aggregate_served c w.at w.first w.leaves w.given mode ≡ or_bad (part_asked c w) (assigned_by c w.at mode)
served_by c w mode = bad_or (aggregate_at c w.at) (λ a. part_of_leaves c a w.first w.leaves w.given) (assigned_by c w.at mode)

pub not_served : (c : Call) (w : PartAsked) (mode : ℕ) → part_asked c w ≡ None → aggregate_served c w.at w.first w.leaves w.given mode ≡ Bad
not_served c w mode e = served_by c w mode ∙ ap (λ o. or_bad o (assigned_by c w.at mode)) e

no_mode : {A : Type 0} (o : Option A) → or_bad o (λ a. Bad) ≡ Bad
no_mode None = refl
no_mode (Some a) = refl

same_first : (first : ℕ) → first ≡ first + 0
same_first first = omega arith

-- ---- mode 0

-- what is taken, by tests and leaves
abbrev taken_with : Call → (x : ℕ) → Bool → List S.TakenLeaf → Answer
taken_with c x holds leaves = bad_unless holds (becoming c (pushed (AggregateEntry leaves) c.services) x 0)

pub taken_served : (c : Call) (w : PartAsked) (end : ℕ) (ls : List PartLeaf) → IsPart c (part_asked c w) w.first w.leaves end ls → aggregate_served c w.at w.first w.leaves w.given 0 ≡ leaves_taken w.at ls c
taken_served c w end ls p =
    let a = p.aggregate in
    let f = p.generation in
    let d : Designated = designated_from c a f w.first w.leaves p.given in
    let leaves = subst (λ n. ArePartLeaves a.shape a.extent f p.given end n ls) (same_first w.first) p.leaves in
    let values : list_all (λ n. goes_into (kind_of_nth d n) (kind_of_nth d n)) (leaf_numbers d) ≡ have_values ls =
    ap (λ n. list_all (λ n. goes_into (kind_of_nth d n) (kind_of_nth d n)) (range_with_len 0 n)) (sym p.many) ∙ sym (all_have_values c a f end w.first w.leaves 0 p.given ls leaves) in
    let taken : map (taken_leaf d) (leaf_numbers d) ≡ map (leaf_taken c.memory) ls =
    ap (λ n. map (taken_leaf d) (range_with_len 0 n)) (sym p.many) ∙ sym (all_taken c a f end w.first w.leaves 0 p.given ls leaves) in
    served_by c w 0 ∙ (ap (λ o. or_bad o (assigned_by c w.at 0)) p.found ∙ ap₂ (taken_with c w.at) values taken)

-- ---- mode 1

as_many_last : (z : ℤ) (ls : List Leaf) → length (last_refers z ls) ≡ length ls
as_many_last z [] = refl
as_many_last z (l ∷ []) = refl
as_many_last z (l ∷ m ∷ ls) = ap suc (as_many_last z (m ∷ ls))

as_many : (z : ℤ) (r : Option ℕ) (ls : List Leaf) → length (leaves_refer z r ls) ≡ length ls
as_many z None ls = refl
as_many z (Some member) ls = as_many_last z ls

-- what is put, by the bounds and kinds
abbrev pub put_with : Call → (x : ℕ) → (same goes : Bool) → (below : List Entry) → (memory : List ℕ) → Answer
put_with c x same goes below m = if same then bad_unless goes (Done (with_entries below c.services) m x 0) else answering c x shape_code

put_if : (c : Call) (x : ℕ) (t : Bool) (below : List Entry) (g h : Bool) (m n : List ℕ) → (t ≡ true → g ≡ h) → (t ≡ true → m ≡ n) → put_with c x t g below m ≡ put_with c x t h below n
put_if c x true below g h m n e f = ap₂ (λ k o. put_with c x true k below o) (e refl) (f refl)
put_if c x false below g h m n e f = refl

pub put_served : (c : Call) (w : PartAsked) (end : ℕ) (ls : List PartLeaf) (ts : List TakenLeaf) (below : List Entry) → IsPart c (part_asked c w) w.first w.leaves end ls → c.services.entries ≡ entry_of ts ∷ below
    → aggregate_served c w.at w.first w.leaves w.given 1 ≡ taken_put w.at ls ts below c
put_served c w end ls ts below p e =
    let a = p.aggregate in
    let f = p.generation in
    let d : Designated = designated_from c a f w.first w.leaves p.given in
    let found : PartFound = record { found = f; part = d } in
    let leaves = subst (λ n. ArePartLeaves a.shape a.extent f p.given end n ls) (same_first w.first) p.leaves in
    let bounds : part_bounds d ≡ map bounds_of ls =
    ap (λ n. bounds_left (length p.given) (take n (drop w.first (leaves_with a.extent a.shape)))) (sym p.many)
    ∙ bounds_known a.shape a.extent f p.given end w.first ls (as_many a.extent a.shape.refer a.shape.signature.leaves) p.leaves in
    let same = all_same_bounds (map bounds_of ls) (map bounds_taken ts) in
    let tests : all_same_bounds (part_bounds d) (map (λ t. t.bounds) (map leaf_of ts)) ≡ same = ap₂ all_same_bounds bounds (map_map (λ t. t.bounds) leaf_of ts) in
    served_by c w 1
    ∙ (ap (λ o. or_bad o (assigned_by c w.at 1)) p.found
    ∙ (ap (part_put c w.at found) e
    ∙ (ap (λ t. put_with c w.at t (leaves_go_into d 0 (map leaf_of ts)) below (stored_in found (stores_of d 0 (map leaf_of ts)) c.memory)) tests
    ∙ put_if c w.at same below (leaves_go_into d 0 (map leaf_of ts)) (go_into ls ts) (stored_in found (stores_of d 0 (map leaf_of ts)) c.memory) (leaves_put ls ts c.memory)
    (λ t. kinds_known c a f end w.first w.leaves 0 p.given ls ts leaves (even t))
    (λ t. all_stored c a f end w.first w.leaves 0 p.given ls ts c.memory leaves t))))
  where
    mapped : {X Y : Type 0} (g : X → Y) (xs : List X) → length (map g xs) ≡ length xs
    mapped g [] = refl
    mapped g (x ∷ xs) = ap suc (mapped g xs)

    even : all_same_bounds (map bounds_of ls) (map bounds_taken ts) ≡ true → length ls ≡ length ts
    even t = sym (mapped bounds_of ls) ∙ (as_many_bounds (map bounds_of ls) (map bounds_taken ts) t ∙ mapped bounds_taken ts)

-- another mode is no call
pub other_mode : (c : Call) (w : PartAsked) (mode : ℕ) → (mode == 0) ≡ false → (mode == 1) ≡ false → aggregate_served c w.at w.first w.leaves w.given mode ≡ Bad
other_mode c w mode e f =
    served_by c w mode
    ∙ (ap₂ (λ s t. or_bad (part_asked c w) (λ p. if s then part_taken c w.at p else bad_unless t (part_put c w.at p c.services.entries))) e f
    ∙ no_mode (part_asked c w))

-- ---- by what was found

pub taken_if : (c : Call) (w : PartAsked) (end : ℕ) (o : Option (Vec PartLeaf Global)) → IsPartIf c (part_asked c w) w.first w.leaves end (Ok o)
    → aggregate_served c w.at w.first w.leaves w.given 0 ≡ or_bad (option_map (λ (v : Vec PartLeaf Global). v.items) o) (λ ls. leaves_taken w.at ls c)
taken_if c w end None p = not_served c w 0 p
taken_if c w end (Some v) p = taken_served c w end v.items p

pub put_found_so : (c : Call) (w : PartAsked) (end : ℕ) (o : Option (Vec PartLeaf Global)) (ts : List TakenLeaf) (below : List Entry) → IsPartIf c (part_asked c w) w.first w.leaves end (Ok o) → c.services.entries ≡ entry_of ts ∷ below
    → aggregate_served c w.at w.first w.leaves w.given 1 ≡ or_bad (option_map (λ (v : Vec PartLeaf Global). v.items) o) (λ ls. taken_put w.at ls ts below c)
put_found_so c w end None ts below p e = not_served c w 1 p
put_found_so c w end (Some v) ts below p e = put_served c w end v.items ts below p e

pub readable_if : (c : Call) (o : Option PartFound) (first count end most : ℕ) (v : Option (Vec PartLeaf Global)) → end ≤ most → IsPartIf c o first count end (Ok v) → MatchOption v ⊤ (λ (leaves : Vec PartLeaf Global). AreReadable most leaves.items)
readable_if c o first count end most None h p = tt
readable_if c o first count end most (Some v) h p = all_readable p.aggregate.shape p.aggregate.extent p.generation p.given end first most v.items h p.leaves
