-- Memory where a name has been copied into a list of arguments, and the words behind it.
use Rattle.std.proofs.Common.{◌≡◌, inl, ℕ, zero, suc, ◌+◌, ◌-◌, ◌*◌, ◌/◌, ◌%◌, ◌^◌, ◌<◌, ◌≤◌, List, length}
use Rattle.std.proofs.Common.{Some, None, Bool, true, false, refl, sym, ap, ◌∙◌, arith}
use Rattle.std.proofs.lemmas.Bool.Decides.{nat_tests}
use Rattle.std.specs.Prelude.{cond, slice_index, ◌==◌}
use Rattle.rv_meaning.specs.Memory.{load, store}
use Rattle.rv_meaning.proofs.MemoryLaws.{length-store, load-store_same, load-store_other}
use Rattle.area_keeper.specs.KeptAreas.{part, with_part}
use Rattle.area_keeper.proofs.Agreement.{byte_inside, byte_part, length_part, length_with_part}
use Rattle.activation_relation.specs.Frames.{word_place}
use Rattle.activation_relation.specs.Layers.{Layer}
use Rattle.argument_runs.specs.Lists.{list_under}
use Rattle.reference_runs.specs.References.{Reference, referred_waits}

-- what stands at one place of one memory stands at another of another
load_moved :
    (n : ℕ) (m m' : List ℕ) (at to : ℕ) → ((k : ℕ) → k < n → slice_index m (at + k) ≡ slice_index m' (to + k)) →
    load n m at ≡ load n m' to
load_moved zero m m' at to same = refl
load_moved (suc n) m m' at to same =
    let first : slice_index m at ≡ slice_index m' to =
    ap (slice_index m) (none at) ∙ same 0 (omega arith) ∙ ap (slice_index m') (sym (none to)) in
    let rest = load_moved n m m' (suc at) (suc to)
    (λ k less.
    ap (slice_index m) (next at k) ∙ same (suc k) (omega (arith, less)) ∙ ap (slice_index m') (sym (next to k)))
    in
    ap (λ b. b + 256 * load n m (suc at)) first ∙ ap (λ r. slice_index m' to + 256 * r) rest
  where
    none : (a : ℕ) → a ≡ a + 0
    none a = omega arith

    next : (a k : ℕ) → suc a + k ≡ a + suc k
    next a k = omega arith

-- a name that is copied
abbrev pub copied_name : (from to : ℕ) → List ℕ → List ℕ
copied_name from to m = with_part (part from 16 m) to m

pub copied_length : (from to : ℕ) (m : List ℕ) → from + 16 ≤ length m → to + 16 ≤ length m →
    length (copied_name from to m) ≡ length m
copied_length from to m room room' =
    let n = length_part from 16 m room in length_with_part (part from 16 m) to m (omega (arith, n, room'))

pub copied_word :
    (from to i : ℕ) (m : List ℕ) → from + 16 ≤ length m → to + 16 ≤ length m → i ≤ 12 →
    load 4 (copied_name from to m) (to + i) ≡ load 4 m (from + i)
copied_word from to i m room room' few =
    load_moved 4 (copied_name from to m) m (to + i) (from + i) (λ k less. byte k less)
  where
    long : length (part from 16 m) ≡ 16
    long = length_part from 16 m room

    byte : (k : ℕ) → k < 4 → slice_index (copied_name from to m) (to + i + k) ≡ slice_index m (from + i + k)
    byte k less =
        let e : to + i + k ≡ to + (i + k) = omega arith in
        let e' : from + (i + k) ≡ from + i + k = omega arith in
        ap (slice_index (copied_name from to m)) e
        ∙ byte_inside (part from 16 m) to m (i + k) (omega (arith, long, room')) (omega (arith, long, few, less))
        ∙ byte_part from 16 m (i + k) (omega (arith, few, less))
        ∙ ap (slice_index m) e'

-- ---- the words of the list

-- behind the name come the number of its signature and what tells that it is no copy
abbrev pub referred_memory : (frame : ℕ) → Reference → List ℕ → List ℕ
referred_memory frame r m =
    store 4 (store 4 (copied_name (frame + r.place) (list_under frame) m) (frame - 8) r.signature) (frame - 4) 0

-- where the name stands in the frame, behind the list
pub record HasName (frame : ℕ) (r : Reference) (m : List ℕ) : Type 0 where
  pub low : 24 ≤ frame
  pub room : frame + r.place + 16 ≤ length m
  pub kind : load 4 m (frame + r.place) ≡ 1
  pub second : load 4 m (frame + r.place + 4) ≡ 0
  pub first : load 4 m (frame + r.place + 8) ≡ r.serial % 2 ^ 32
  pub last : load 4 m (frame + r.place + 12) ≡ r.serial / 2 ^ 32

name_kept :
    (frame i v : ℕ) (r : Reference) (m : List ℕ) → HasName frame r m → i ≤ 12 → load 4 m (frame + r.place + i) ≡ v →
    load 4 (referred_memory frame r m) (list_under frame + i) ≡ v
name_kept frame i v r m h few e =
    let low = h.low in
    let room = h.room in
    let first = copied_name (frame + r.place) (list_under frame) m in
    load-store_other 4 4 (store 4 first (frame - 8) r.signature) (frame - 4) 0 (list_under frame + i)
    (inl (omega (arith, low, few)))
    ∙ load-store_other 4 4 first (frame - 8) r.signature (list_under frame + i) (inl (omega (arith, low, few)))
    ∙ copied_word (frame + r.place) (list_under frame) i m room (omega (arith, room)) few
    ∙ e

pub referred_length :
    (frame : ℕ) (r : Reference) (m : List ℕ) → HasName frame r m → length (referred_memory frame r m) ≡ length m
referred_length frame r m h =
    let room = h.room in
    let first = copied_name (frame + r.place) (list_under frame) m in
    length-store 4 (store 4 first (frame - 8) r.signature) (frame - 4) 0
    ∙ length-store 4 first (frame - 8) r.signature
    ∙ copied_length (frame + r.place) (list_under frame) m room (omega (arith, room))

pub referred_found :
    (φ : Layer) (r : Reference) (n v : ℕ) (m : List ℕ) → HasName φ.at r m → r.signature < 2 ^ 32 →
    referred_waits r n ≡ Some v → load 4 (referred_memory φ.at r m) (word_place φ n) ≡ v
referred_found φ r n v m h small' e = t5 (n == 5) refl e
  where
    new : List ℕ
    new = referred_memory φ.at r m

    first : List ℕ
    first = copied_name (φ.at + r.place) (list_under φ.at) m

    low : 24 ≤ φ.at
    low = h.low

    long : length first ≡ length m
    long = let room = h.room in copied_length (φ.at + r.place) (list_under φ.at) m room (omega (arith, room))

    inside : φ.at ≤ length m
    inside = let room = h.room in omega (arith, room)

    some : {a b : ℕ} → Some a ≡ Some b → a ≡ b
    some e' = cc e'

    at : (k j w : ℕ) → n ≡ k → φ.at - 4 * suc k ≡ j → load 4 new j ≡ w → Some w ≡ Some v →
        load 4 new (word_place φ n) ≡ v
    at k j w same place there e' =
        ap (λ i. load 4 new (φ.at - 4 * suc i)) same ∙ ap (load 4 new) place ∙ there ∙ some e'

    number' : load 4 new (φ.at - 8) ≡ r.signature
    number' =
        load-store_other 4 4 (store 4 first (φ.at - 8) r.signature) (φ.at - 4) 0 (φ.at - 8) (inl (omega (arith, low)))
        ∙ load-store_same 4 first (φ.at - 8) r.signature (omega (arith, small')) (omega (arith, long, inside, low))

    mark : load 4 new (φ.at - 4) ≡ 0
    mark =
        let n' = length-store 4 first (φ.at - 8) r.signature in
        load-store_same 4 (store 4 first (φ.at - 8) r.signature) (φ.at - 4) 0 (omega arith)
        (omega (arith, long, inside, low, n'))

    t0 : (q : Bool) → (n == 0) ≡ q → cond q (Some 0) None ≡ Some v → load 4 new (word_place φ n) ≡ v
    t0 true f e' = at 0 (φ.at - 4) 0 (grind (arith, nat_tests)) (omega arith) mark e'
    t0 false f e' = absurd (cc e')

    t1 : (q : Bool) → (n == 1) ≡ q → cond q (Some r.signature) (cond (n == 0) (Some 0) None) ≡ Some v →
        load 4 new (word_place φ n) ≡ v
    t1 true f e' = at 1 (φ.at - 8) r.signature (grind (arith, nat_tests)) (omega arith) number' e'
    t1 false f e' = t0 (n == 0) refl e'

    t2 : (q : Bool) → (n == 2) ≡ q →
        cond q (Some (r.serial / 2 ^ 32)) (cond (n == 1) (Some r.signature) (cond (n == 0) (Some 0) None)) ≡ Some v →
        load 4 new (word_place φ n) ≡ v
    t2 true f e' =
        at 2 (list_under φ.at + 12) (r.serial / 2 ^ 32) (grind (arith, nat_tests)) (omega (arith, low))
        (name_kept φ.at 12 (r.serial / 2 ^ 32) r m h (omega arith) h.last) e'
    t2 false f e' = t1 (n == 1) refl e'

    t3 : (q : Bool) → (n == 3) ≡ q →
        cond q (Some (r.serial % 2 ^ 32)) (cond (n == 2) (Some (r.serial / 2 ^ 32)) (cond (n == 1) (Some r.signature)
        (cond (n == 0) (Some 0) None))) ≡ Some v → load 4 new (word_place φ n) ≡ v
    t3 true f e' =
        at 3 (list_under φ.at + 8) (r.serial % 2 ^ 32) (grind (arith, nat_tests)) (omega (arith, low))
        (name_kept φ.at 8 (r.serial % 2 ^ 32) r m h (omega arith) h.first) e'
    t3 false f e' = t2 (n == 2) refl e'

    t4 : (q : Bool) → (n == 4) ≡ q →
        cond q (Some 0) (cond (n == 3) (Some (r.serial % 2 ^ 32)) (cond (n == 2) (Some (r.serial / 2 ^ 32))
        (cond (n == 1) (Some r.signature) (cond (n == 0) (Some 0) None)))) ≡ Some v →
        load 4 new (word_place φ n) ≡ v
    t4 true f e' =
        at 4 (list_under φ.at + 4) 0 (grind (arith, nat_tests)) (omega (arith, low))
        (name_kept φ.at 4 0 r m h (omega arith) h.second) e'
    t4 false f e' = t3 (n == 3) refl e'

    t5 : (q : Bool) → (n == 5) ≡ q →
        cond q (Some 1) (cond (n == 4) (Some 0) (cond (n == 3) (Some (r.serial % 2 ^ 32))
        (cond (n == 2) (Some (r.serial / 2 ^ 32)) (cond (n == 1) (Some r.signature) (cond (n == 0) (Some 0) None)))))
        ≡ Some v → load 4 new (word_place φ n) ≡ v
    t5 true f e' =
        at 5 (list_under φ.at + 0) 1 (grind (arith, nat_tests)) (omega (arith, low))
        (name_kept φ.at 0 1 r m h (omega arith) (ap (load 4 m) (none (φ.at + r.place)) ∙ h.kind)) e'
      where
        none : (a : ℕ) → a + 0 ≡ a
        none a = omega arith
    t5 false f e' = t4 (n == 4) refl e'
