-- Blocks beside their units, newest first: what is done with both is done with the activations that they are.
use Rattle.std.proofs.Common.{◌≡◌, ℕ, zero, suc, ◌+◌, ◌-◌, ◌<◌, ◌≤◌, Bool, true, false, List, [], ◌∷◌, ◌++◌, length, take, drop, get_or, Some, None, Option, refl, sym, ap, ap₂, subst, ◌∙◌, arith, length-drop, length-take, ◌≢◌}
use Rattle.std.proofs.lemmas.Bool.Decides.{nat_tests}
use Rattle.std.specs.Prelude.{reverse, ◌==◌, option_map, slice_get, if◌then◌else◌}
use Rattle.std.proofs.lemmas.List.{drop_at, drop-drop, length-reverse, reverse-append, take-append-drop, take_more, get_or_append_left}
use Rattle.std.proofs.Math.Seq.{get_or-append_seam}
use Rattle.pli_language.specs.declared.condition.Condition.{Condition}
use Rattle.pli_meaning.specs.StorageState.{first_unit, same_condition, unit_for, without_unit}
use Rattle.pli_conditions.specs.declared.units.Unit.{Unit as UnitHeld}
use Rattle.pli_conditions.specs.Blocks as C
use Rattle.pli_serving.specs.ServiceState.{Activation, OnUnit}
use Rattle.pli_serving.specs.Blocks.{from_frame}
use Rattle.pli_serving.specs.OnUnits.{established, force, reverted}
use Rattle.pli_serving.specs.ActsAndEnds.{code_of_kind, oncode_of}
use Rattle.pli_activations.specs.declared.block.Block.{Block}
use Rattle.pli_activations.specs.declared.block.BlockKind.TheVariants as K
use Rattle.pli_activations.specs.Entered.{activation_with, activations_of, block_shown, framed, kind_shown, unit_shown, units_shown, without_units}

-- ---- lists beside each other

pub length-zipped : (bs : List Block) (uss : List (List (Condition × UnitHeld))) → length uss ≡ length bs → length (activations_of bs uss) ≡ length bs
length-zipped [] uss e = refl
length-zipped (b ∷ bs) [] e = absurd (omega (arith, e))
length-zipped (b ∷ bs) (us ∷ uss) e = ap suc (length-zipped bs uss (omega (arith, e)))

pub drop-zipped : (n : ℕ) (bs : List Block) (uss : List (List (Condition × UnitHeld))) → length uss ≡ length bs → activations_of (drop n bs) (drop n uss) ≡ drop n (activations_of bs uss)
drop-zipped zero bs uss e = refl
drop-zipped (suc n) [] [] e = refl
drop-zipped (suc n) [] (us ∷ uss) e = absurd (omega (arith, e))
drop-zipped (suc n) (b ∷ bs) [] e = absurd (omega (arith, e))
drop-zipped (suc n) (b ∷ bs) (us ∷ uss) e = drop-zipped n bs uss (omega (arith, e))

-- ---- units

without_unit-shown : (k : Condition) (us : List (Condition × UnitHeld)) → without_unit k (units_shown us) ≡ units_shown (without_unit k us)
without_unit-shown k [] = refl
without_unit-shown k (u ∷ us) = elim (same_condition u.0 k) as (λ t. (if t then units_shown us else (u.0, unit_shown u.1) ∷ without_unit k (units_shown us)) ≡ units_shown (if t then us else u ∷ without_unit k us)) [ true ↦ refl | false ↦ ap (λ rest. (u.0, unit_shown u.1) ∷ rest) (without_unit-shown k us) ]

unit_for-shown : (k : Condition) (us : List (Condition × UnitHeld)) → unit_for (units_shown us) k ≡ option_map unit_shown (unit_for us k)
unit_for-shown k [] = refl
unit_for-shown k (u ∷ us) = elim (same_condition u.0 k) as (λ t. (if t then Some (unit_shown u.1) else unit_for (units_shown us) k) ≡ option_map unit_shown (if t then Some u.1 else unit_for us k)) [ true ↦ refl | false ↦ unit_for-shown k us ]

pub established-zipped : (k : Condition) (u : UnitHeld) (bs : List Block) (uss : List (List (Condition × UnitHeld))) → length uss ≡ length bs → 0 < length uss → established k (unit_shown u) (activations_of bs uss) ≡ Some (activations_of bs (C.established k u uss))
established-zipped k u bs [] e h = absurd (omega (arith, h))
established-zipped k u [] (us ∷ uss) e h = absurd (omega (arith, e))
established-zipped k u (b ∷ bs) (us ∷ uss) e h = ap (λ vs. Some (activation_with b ((k, unit_shown u) ∷ vs) ∷ activations_of bs uss)) (without_unit-shown k us)

pub reverted-zipped : (k : Condition) (bs : List Block) (uss : List (List (Condition × UnitHeld))) → length uss ≡ length bs → 0 < length uss → reverted k (activations_of bs uss) ≡ Some (activations_of bs (C.reverted k uss))
reverted-zipped k bs [] e h = absurd (omega (arith, h))
reverted-zipped k [] (us ∷ uss) e h = absurd (omega (arith, e))
reverted-zipped k (b ∷ bs) (us ∷ uss) e h = ap (λ vs. Some (activation_with b vs ∷ activations_of bs uss)) (without_unit-shown k us)

-- ---- the code of the newest on-unit

abbrev pub oncode_in : List Block → ℕ
oncode_in [] = 0
oncode_in (b ∷ bs) = code_of_kind (kind_shown b.kind) (oncode_in bs)

pub oncode-zipped : (bs : List Block) (uss : List (List (Condition × UnitHeld))) → length uss ≡ length bs → oncode_of (activations_of bs uss) ≡ oncode_in bs
oncode-zipped [] uss e = refl
oncode-zipped (b ∷ bs) [] e = absurd (omega (arith, e))
oncode-zipped (b ∷ bs) (us ∷ uss) e = ap (code_of_kind (kind_shown b.kind)) (oncode-zipped bs uss (omega (arith, e)))

-- ---- oldest first

pub reverse-more : (items : List Block) (n : ℕ) (d : Block) → n < length items → reverse (take (n + 1) items) ≡ get_or items n d ∷ reverse (take n items)
reverse-more items n d h = ap reverse (take_more items n d h) ∙ reverse-append (take n items) (get_or items n d ∷ [])

pub reverse-take : (n : ℕ) (items : List Block) → n ≤ length items → reverse (take n items) ≡ drop (length items - n) (reverse items)
reverse-take n items h =
    let split : reverse items ≡ reverse (drop n items) ++ reverse (take n items) = ap reverse (sym (take-append-drop n items)) ∙ reverse-append (take n items) (drop n items) in
    let count : length (reverse (drop n items)) ≡ length items - n = length-reverse (drop n items) ∙ length-drop n items in
    sym (ap (drop (length items - n)) split ∙ drop_at (reverse (drop n items)) (reverse (take n items)) (length items - n) count)

-- ---- what is in force

none_here : (n : ℕ) (a : Activation) (o : Option UnitHeld) (f : Option (ℕ × UnitHeld)) (g : Option (Activation × OnUnit)) → first_unit n o f ≡ None → (f ≡ None → g ≡ None) → first_unit a (option_map unit_shown o) g ≡ None
none_here n a None f g e h = h e
none_here n a (Some u) f g e h = absurd (cc e)

pub force-none : (bs : List Block) (uss : List (List (Condition × UnitHeld))) (k : Condition) → length uss ≡ length bs → C.in_force uss k ≡ None → force (activations_of bs uss) k ≡ None
force-none [] uss k e n = refl
force-none (b ∷ bs) [] k e n = absurd (omega (arith, e))
force-none (b ∷ bs) (us ∷ uss) k e n =
    ap (λ o. first_unit (activation_with b (units_shown us)) o (force (activations_of bs uss) k)) (unit_for-shown k us)
    ∙ none_here (length (us ∷ uss)) (activation_with b (units_shown us)) (unit_for us k) (C.in_force uss k) (force (activations_of bs uss) k) n (force-none bs uss k (omega (arith, e)))

-- a unit in force is that of the block at its depth
pub record IsAt (bs : List Block) (depth : ℕ) (u : UnitHeld) (g : Option (Activation × OnUnit)) : Type 0 where
  pub least : 1 ≤ depth
  pub within : depth ≤ length bs
  pub shown : (d : Block) → option_map framed g ≡ Some ((get_or (reverse bs) (depth - 1) d).frame, unit_shown u)

-- the same with one block more
at_least : (b : Block) (bs : List Block) (depth : ℕ) (u : UnitHeld) (g : Option (Activation × OnUnit)) → IsAt bs depth u g → IsAt (b ∷ bs) depth u g
at_least b bs depth u g r =
    let behind : reverse (b ∷ bs) ≡ reverse bs ++ (b ∷ []) = reverse-append (b ∷ []) bs in
    record { least = r.least; within = omega (arith, r.within); shown = λ d. r.shown d ∙ ap (λ c. Some (c.frame, unit_shown u)) (sym (ap (λ cs. get_or cs (depth - 1) d) behind ∙ get_or_append_left (reverse bs) (b ∷ []) d (depth - 1) (omega (arith, r.least, r.within, length-reverse bs)))) }

newest_at : (b : Block) (bs : List Block) (a : Activation) (depth : ℕ) (u v : UnitHeld) → a.frame ≡ b.frame → suc (length bs) ≡ depth → v ≡ u → IsAt (b ∷ bs) depth u (Some (a, unit_shown v))
newest_at b bs a depth u v same count is =
    let behind : reverse (b ∷ bs) ≡ reverse bs ++ (b ∷ []) = reverse-append (b ∷ []) bs in
    let place : depth - 1 ≡ length (reverse bs) = omega (arith, count, length-reverse bs) in
    record { least = omega (arith, count); within = omega (arith, count); shown = λ d. ap₂ (λ f w. Some (f, unit_shown w)) same is ∙ ap (λ c. Some (c.frame, unit_shown u)) (sym (ap₂ (λ cs i. get_or cs i d) behind place ∙ get_or-append_seam (reverse bs) b [] d)) }

abbrev depth_in : Option (ℕ × UnitHeld) → ℕ
depth_in None = 0
depth_in (Some p) = p.0

abbrev unit_in : UnitHeld → Option (ℕ × UnitHeld) → UnitHeld
unit_in u None = u
unit_in u (Some p) = p.1

here_or_below : (b : Block) (bs : List Block) (n : ℕ) (a : Activation) (o : Option UnitHeld) (f : Option (ℕ × UnitHeld)) (g : Option (Activation × OnUnit)) (depth : ℕ) (u : UnitHeld) → a.frame ≡ b.frame → n ≡ suc (length bs) → first_unit n o f ≡ Some (depth, u) → (f ≡ Some (depth, u) → IsAt bs depth u g) → IsAt (b ∷ bs) depth u (first_unit a (option_map unit_shown o) g)
here_or_below b bs n a None f g depth u same count e h = at_least b bs depth u g (h e)
here_or_below b bs n a (Some v) f g depth u same count e h = newest_at b bs a depth u v same (sym count ∙ depth_is) unit_is
  where
    depth_is : n ≡ depth
    depth_is = ap depth_in e

    unit_is : v ≡ u
    unit_is = ap (unit_in u) e

pub force-some : (bs : List Block) (uss : List (List (Condition × UnitHeld))) (k : Condition) (depth : ℕ) (u : UnitHeld) → length uss ≡ length bs → C.in_force uss k ≡ Some (depth, u) → IsAt bs depth u (force (activations_of bs uss) k)
force-some bs [] k depth u e n = absurd (cc n)
force-some [] (us ∷ uss) k depth u e n = absurd (omega (arith, e))
force-some (b ∷ bs) (us ∷ uss) k depth u e n =
    subst (λ o. IsAt (b ∷ bs) depth u (first_unit (activation_with b (units_shown us)) o (force (activations_of bs uss) k))) (sym (unit_for-shown k us))
    (here_or_below b bs (length (us ∷ uss)) (activation_with b (units_shown us)) (unit_for us k) (C.in_force uss k) (force (activations_of bs uss) k) depth u refl e n (λ f. force-some bs uss k depth u (omega (arith, e)) f))

-- ---- the block of a frame

pub here : (b : Block) (bs : List Block) (vs : List (List (Condition × UnitHeld))) (frame : ℕ) → length vs ≡ suc (length bs) → (b.frame == frame) ≡ true → from_frame frame (activations_of (b ∷ bs) vs) ≡ activations_of (b ∷ bs) vs
here b bs [] frame e same = absurd (omega (arith, e))
here b bs (v ∷ vs) frame e same = ap (λ t. if t then activations_of (b ∷ bs) (v ∷ vs) else from_frame frame (activations_of bs vs)) same

pub further : (b : Block) (bs : List Block) (vs : List (List (Condition × UnitHeld))) (frame : ℕ) → length vs ≡ suc (length bs) → (b.frame == frame) ≡ false → from_frame frame (activations_of (b ∷ bs) vs) ≡ from_frame frame (activations_of bs (drop 1 vs))
further b bs [] frame e other = absurd (omega (arith, e))
further b bs (v ∷ vs) frame e other = ap (λ t. if t then activations_of (b ∷ bs) (v ∷ vs) else from_frame frame (activations_of bs vs)) other

-- ---- one block further down, in a list that is kept oldest first

newest_of : (items : List Block) (h : ℕ) (b : Block) → 0 < h → h ≤ length items → b ≡ get_or items (h - 1) b → reverse (take h items) ≡ b ∷ reverse (take (h - 1) items)
newest_of items h b least within is =
    ap (λ n. reverse (take n items)) (omega arith)
    ∙ reverse-more items (h - 1) b (omega arith)
    ∙ ap (λ c. c ∷ reverse (take (h - 1) items)) (sym is)

pub unit_code : (items : List Block) (h : ℕ) (b : Block) (code resume : ℕ) → 0 < h → h ≤ length items → b ≡ get_or items (h - 1) b → b.kind ≡ K.OnUnit code resume → oncode_in (reverse (take h items)) ≡ code
unit_code items h b code resume least within is kind =
    ap oncode_in (newest_of items h b least within is)
    ∙ ap (λ k. code_of_kind (kind_shown k) (oncode_in (reverse (take (h - 1) items)))) kind

eq_true : (a b : ℕ) → a ≡ b → (a == b) ≡ true
eq_true a b e = grind (arith, nat_tests)

eq_false : (a b : ℕ) → a ≢ b → (a == b) ≡ false
eq_false a b e = grind (arith, nat_tests)

length-take_of : (items : List Block) (h : ℕ) → h ≤ length items → length (take h items) ≡ h
length-take_of items h within = omega (arith, length-take h items)

pub at_frame : (items : List Block) (uss : List (List (Condition × UnitHeld))) (h frame : ℕ) (b : Block) → length uss ≡ length items → 0 < h → h ≤ length items → b ≡ get_or items (h - 1) b → b.frame ≡ frame
    → from_frame frame (activations_of (reverse (take h items)) (drop (length items - h) uss)) ≡ drop (length items - h) (activations_of (reverse items) uss)
at_frame items uss h frame b count least within is same =
    let top = newest_of items h b least within is in
    let as_many : length (drop (length items - h) uss) ≡ suc (length (reverse (take (h - 1) items))) = omega (arith, length-drop (length items - h) uss, count, ap length top, length-reverse (take h items), length-take_of items h within) in
    ap (λ bs. from_frame frame (activations_of bs (drop (length items - h) uss))) top
    ∙ here b (reverse (take (h - 1) items)) (drop (length items - h) uss) frame as_many (eq_true b.frame frame same)
    ∙ ap (λ bs. activations_of bs (drop (length items - h) uss)) (sym top ∙ reverse-take h items within)
    ∙ drop-zipped (length items - h) (reverse items) uss (count ∙ sym (length-reverse items))

pub not_at_frame : (items : List Block) (uss : List (List (Condition × UnitHeld))) (h frame : ℕ) (b : Block) → length uss ≡ length items → 0 < h → h ≤ length items → b ≡ get_or items (h - 1) b → b.frame ≢ frame
    → from_frame frame (activations_of (reverse (take h items)) (drop (length items - h) uss)) ≡ from_frame frame (activations_of (reverse (take (h - 1) items)) (drop (length items - (h - 1)) uss))
not_at_frame items uss h frame b count least within is other =
    let top = newest_of items h b least within is in
    let as_many : length (drop (length items - h) uss) ≡ suc (length (reverse (take (h - 1) items))) = omega (arith, length-drop (length items - h) uss, count, ap length top, length-reverse (take h items), length-take_of items h within) in
    ap (λ bs. from_frame frame (activations_of bs (drop (length items - h) uss))) top
    ∙ further b (reverse (take (h - 1) items)) (drop (length items - h) uss) frame as_many (eq_false b.frame frame other)
    ∙ ap (λ us. from_frame frame (activations_of (reverse (take (h - 1) items)) us)) (drop-drop 1 (length items - h) uss ∙ ap (λ k. drop k uss) (omega arith))

-- ---- what is kept of the block of a frame

abbrev pub block_in : (frame : ℕ) → List Block → Option Block
block_in frame [] = None
block_in frame (b ∷ bs) = if b.frame == frame then Some b else block_in frame bs

pub block-zipped : (frame : ℕ) (bs : List Block) (uss : List (List (Condition × UnitHeld))) → length uss ≡ length bs → option_map without_units (slice_get (from_frame frame (activations_of bs uss)) 0) ≡ option_map block_shown (block_in frame bs)
block-zipped frame [] uss e = refl
block-zipped frame (b ∷ bs) [] e = absurd (omega (arith, e))
block-zipped frame (b ∷ bs) (us ∷ uss) e = by_test (b.frame == frame) (block-zipped frame bs uss (omega (arith, e)))
  where
    by_test : (t : Bool) → option_map without_units (slice_get (from_frame frame (activations_of bs uss)) 0) ≡ option_map block_shown (block_in frame bs) → option_map without_units (slice_get (if t then activations_of (b ∷ bs) (us ∷ uss) else from_frame frame (activations_of bs uss)) 0) ≡ option_map block_shown (if t then Some b else block_in frame bs)
    by_test true further = refl
    by_test false further = further

pub block_here : (items : List Block) (h frame : ℕ) (b : Block) → 0 < h → h ≤ length items → b ≡ get_or items (h - 1) b → b.frame ≡ frame → block_in frame (reverse (take h items)) ≡ Some b
block_here items h frame b least within is same =
    ap (block_in frame) (newest_of items h b least within is)
    ∙ ap (λ t. if t then Some b else block_in frame (reverse (take (h - 1) items))) (eq_true b.frame frame same)

pub block_further : (items : List Block) (h frame : ℕ) (b : Block) → 0 < h → h ≤ length items → b ≡ get_or items (h - 1) b → b.frame ≢ frame → block_in frame (reverse (take h items)) ≡ block_in frame (reverse (take (h - 1) items))
block_further items h frame b least within is other =
    ap (block_in frame) (newest_of items h b least within is)
    ∙ ap (λ t. if t then Some b else block_in frame (reverse (take (h - 1) items))) (eq_false b.frame frame other)
