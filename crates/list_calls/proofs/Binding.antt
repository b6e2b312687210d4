-- The parameters of a procedure are bound, one after the other: what holds between two of them, and all that is changed
-- in the end.
use Rattle.std.proofs.Common.{◌≡◌, ℕ, ℤ, suc, ◌+◌, ◌*◌, ◌%◌, ◌^◌, ◌<◌, ◌≤◌, inl, inr, List, [], ◌∷◌, length}
use Rattle.std.proofs.Common.{Some, true, false, refl, sym, ap, ◌∙◌, subst, arith}
use Rattle.std.proofs.lemmas.Bool.Decides.{nat_tests}
use Rattle.std.specs.Prelude.{cond, nat_le, pos, ◌==◌, ⊤}
use Rattle.rv_meaning.specs.declared.instr.BranchTest.TheVariants as Test
use Rattle.rv_meaning.specs.declared.instr.Instr.{Instr}
use Rattle.rv_meaning.specs.Words.{word}
use Rattle.image_runs.specs.Runs.{Whole}
use Rattle.pli_meaning.specs.Contents.{footprint_of}
use Rattle.pli_meaning.specs.Making.{with_binding}
use Rattle.pli_meaning.specs.Numbers.{is_of_precision}
use Rattle.pli_meaning.specs.StorageState.{Activation, Binding, automatic_in_use, most_automatic, newest_height}
use Rattle.pli_serving.specs.ServiceState.{Services}
use Rattle.pli_serving.specs.Templates.{shape_at}
use Rattle.pli_coding.specs.Assembly.{size_of}
use Rattle.pli_coding.specs.Instructions.{skip_where}
use Rattle.pli_coding.specs.Registers.{u4, zero_register}
use Rattle.storage_relation.specs.Served.{Holds}
use Rattle.storage_relation.specs.Stored.{AreLow}
use Rattle.storage_relation.proofs.Holders.{eqb-other}
use Rattle.storage_relation.proofs.Making.{same_held}
use Rattle.activation_relation.specs.Chains.{AreActive, UnitPlaces}
use Rattle.activation_relation.specs.FrameLaws.{with_waits}
use Rattle.activation_relation.specs.Frames.{FramesStand}
use Rattle.activation_relation.specs.Layers.{Layer, Point, now, services_of}
use Rattle.activation_relation.specs.Points.{Stands, Surroundings}
use Rattle.activation_relation.specs.Variables.{grown}
use Rattle.activation_relation.proofs.Blocks.{newest_of}
use Rattle.activation_relation.proofs.WaitingWords.{frame_changed}
use Rattle.run_steps.proofs.Bodies.{zero_is}
use Rattle.run_steps.specs.Engine.{Base}
use Rattle.run_steps.specs.Items.{Linked}
use Rattle.run_steps.proofs.Jumps.{back_of, front_of, skip_taken}
use Rattle.run_steps.proofs.Linking.{size_append}
use Rattle.run_steps.specs.Reach.{Family, Reach, reached}
use Rattle.run_steps.proofs.Reach.{reach_map, reach_then, reached_holds, stay}
use Rattle.run_steps.proofs.Reaching.{reach_moved}
use Rattle.block_runs.specs.Machines.{IsImage, IsIn}
use Rattle.block_runs.proofs.PointGrounds.{in_known, point_frame}
use Rattle.argument_runs.specs.Copies.{copy_generation, copy_made_of}
use Rattle.argument_runs.specs.ListBeginnings.{KeepsList}
use Rattle.argument_runs.specs.Parameters.{HasName, most_parameters}
use Rattle.list_calls.specs.Arguments.{ByName, ByValue, ComeTo, Way}
use Rattle.list_calls.specs.ListCalls.{AreNumbered}
use Rattle.list_calls.specs.Lists.{Parameter, Passing, PassesCopy, PassesName, Told, binding_as}
use Rattle.list_calls.specs.Lists.{bound_all, copied_at, copies_in, copy_with}
use Rattle.list_calls.specs.Lists.{list_told, name_told, named_as, part_told}
use Rattle.list_calls.proofs.PartCode.{copies_from, copy_code, flag_code, making_code}
use Rattle.list_calls.proofs.PartCopies.{copy_comes, flag_comes}
use Rattle.list_calls.proofs.PartPoints.{Around, IsCopy, Part, copied_stands}
use Rattle.list_calls.proofs.PartWords.{list_other, name_has, name_mark, name_moves, name_other, value_has}

-- ---- what the caller's words tell of what is passed

abbrev pub AreGiven : (words : ℕ) → Told → List Passing → Type 0
AreGiven words told [] = ⊤
AreGiven words told (PassesCopy z ∷ ys) =
    (told (words + 6 * length ys + 5) ≡ Some (word z)) × (told (words + 6 * length ys) ≡ Some 1)
    × (is_of_precision 31 z ≡ true) × AreGiven words told ys
AreGiven words told (PassesName serial signature ∷ ys) =
    HasName told (words + 6 * length ys) serial signature × (told (words + 6 * length ys) ≡ Some 0)
    × AreGiven words told ys

pub given_moves :
    (words : ℕ) (told told' : Told) (ys : List Passing) → ((i : ℕ) → i < words + 6 * length ys → told' i ≡ told i) →
    AreGiven words told ys → AreGiven words told' ys
given_moves words told told' [] same h = tt
given_moves words told told' (PassesCopy z ∷ ys) same h = (
  same (words + 6 * length ys + 5) (omega arith) ∙ h.0,
  same (words + 6 * length ys) (omega arith) ∙ h.1,
  h.2,
  given_moves words told told' ys (λ i less. same i (omega (arith, less))) h.3,
)
given_moves words told told' (PassesName serial signature ∷ ys) same h =
    let n = h.0 in
    let last = words + 6 * length ys in (
      record {
        kind = same (last + 5) (omega arith) ∙ n.kind;
        second = same (last + 4) (omega arith) ∙ n.second;
        low = same (last + 3) (omega arith) ∙ n.low;
        high = same (last + 2) (omega arith) ∙ n.high;
        number = same (last + 1) (omega arith) ∙ n.number;
      },
      same last (omega arith) ∙ h.1,
      given_moves words told told' ys (λ i less. same i (omega (arith, less))) h.2,
    )

pub list_given :
    (words : ℕ) (us : List Way) (ys : List Passing) (before : Told) → ComeTo us ys →
    AreGiven words (list_told words ys before) ys
list_given words [] [] before come = tt
list_given words [] (y ∷ ys) before come = absurd come
list_given words (u ∷ us) [] before come = absurd come
list_given words (ByValue source ∷ us) (PassesCopy z ∷ ys) before come =
    let last = words + 6 * length ys in
    let told = part_told last (PassesCopy z) before in
    let has = value_has last (word z) before in (
      list_other words (last + 5) ys told (inr (omega arith)) ∙ has.0,
      list_other words last ys told (inr (omega arith)) ∙ has.1,
      come.0,
      list_given words us ys told come.1,
    )
list_given words (ByValue source ∷ us) (PassesName serial signature ∷ ys) before come = absurd come.0
list_given words (ByName v serial signature ∷ us) (PassesCopy z ∷ ys) before come = absurd come.0
list_given words (ByName v serial signature ∷ us) (PassesName serial' signature' ∷ ys) before come =
    let last = words + 6 * length ys in
    let told = part_told last (PassesName serial' signature') before in (
      name_moves (λ i least. list_other words i ys told (inr (omega (arith, least))))
          (name_has last serial' signature' 0 before),
      list_other words last ys told (inr (omega arith)) ∙ name_mark last serial' signature' 0 before,
      list_given words us ys told come.1,
    )

-- ---- between two of them

abbrev pub copy_takes : ℕ
copy_takes = footprint_of (copy_generation (record { index = 0; number = 0; value = pos 0 }))

-- the nth one is next
pub record Binds (w : Surroundings) (code : List Instr) (words n list : ℕ) (xs : List Parameter) (ys : List Passing)
    (ψ φ : Layer) (φs : List Layer) (p : Point) : Type 0 where
  pub stands : Stands w p
  pub image : IsImage w code p
  pub newest : p.control.layers ≡ ψ ∷ φ ∷ φs
  pub list_is : ψ.list ≡ Some list
  pub under : list + 24 * n + 24 * length ys + 4 * words ≡ φ.at
  pub inside : words + 6 * length ys + 6 * n ≤ φ.words
  pub near : n + length ys ≤ most_parameters
  pub many : length xs ≡ length ys
  pub given : AreGiven words φ.waits ys
  pub fits : ψ.top + 16 * copies_in ys ≤ ψ.lower
  pub even : ψ.lower % 16 ≡ 0
  pub low : p.places.low ≤ w.parts.stack_start
  pub numbered : AreNumbered (λ m. shape_at p.places.signatures m) xs
  pub serial : p.state.serials + copies_in ys < 2 ^ 64

pub around :
    {w : Surroundings} {code : List Instr} {words n list : ℕ} {x : Parameter} {xs : List Parameter} {y : Passing}
    {ys : List Passing} {ψ φ : Layer} {φs : List Layer} {p : Point} →
    Binds w code words n list (x ∷ xs) (y ∷ ys) ψ φ φs p →
    Around w code p ψ φ φs (record { list = list; place = n; last = words + 6 * length ys })
around h =
    let under = h.under in
    let inside = h.inside in
    let near = h.near in
    record {
      stands = h.stands;
      image = h.image;
      newest = h.newest;
      list = h.list_is;
      under = omega (arith, under);
      words = omega (arith, inside);
      near = omega (arith, near);
    }

pub is_copy :
    {w : Surroundings} {code : List Instr} {words n list : ℕ} {x : Parameter} {xs : List Parameter} {z : ℤ}
    {ys : List Passing} {ψ φ : Layer} {φs : List Layer} {p : Point} →
    Binds w code words n list (x ∷ xs) (PassesCopy z ∷ ys) ψ φ φs p →
    IsCopy p ψ φ w (record { list = list; place = n; last = words + 6 * length ys }) (copy_with x z)
is_copy h =
    let fits = h.fits in
    let serial = h.serial in
    record {
      value = h.given.0;
      mark = h.given.1;
      wide = h.given.2;
      fits = omega (arith, fits);
      even = h.even;
      low = h.low;
      shape = h.numbered.0;
      number = h.numbered.1;
      serial = omega (arith, serial);
    }

pub copy_next :
    {w : Surroundings} {code : List Instr} {words n list : ℕ} {x : Parameter} {xs : List Parameter} {z : ℤ}
    {ys : List Passing} {ψ φ : Layer} {φs : List Layer} {p : Point} →
    Binds w code words n list (x ∷ xs) (PassesCopy z ∷ ys) ψ φ φs p →
    Binds w code words (suc n) list xs ys (grown (copy_made_of ψ (copy_with x z)) ψ)
    (with_waits (name_told (words + 6 * length ys) (p.state.serials + 1) x.number 1 φ.waits) φ) φs
    (copied_at (words + 6 * length ys) ψ φ φs (copy_with x z) p)
copy_next {words = words} {x = x} {ys = ys} {φ = φ} {p = p} h =
    let known = copied_stands (around h) (is_copy h) in
    let under = h.under in
    let inside = h.inside in
    let near = h.near in
    let many = h.many in
    let fits = h.fits in
    let even = h.even in
    let serial = h.serial in
    let last = words + 6 * length ys in
    record {
      stands = known.0;
      image = known.1;
      newest = refl;
      list_is = h.list_is;
      under = omega (arith, under);
      inside = omega (arith, inside);
      near = omega (arith, near);
      many = omega (arith, many);
      given = given_moves words φ.waits (name_told last (p.state.serials + 1) x.number 1 φ.waits) ys
          (λ i less. name_other last (p.state.serials + 1) x.number 1 i φ.waits (inl less)) h.given.3;
      fits = omega (arith, fits);
      even = omega (arith, even, fits);
      low = h.low;
      numbered = h.numbered.2;
      serial = omega (arith, serial);
    }

-- ---- a name changes what the procedure's activation stands for, and nothing else

pub same_length : (b : Binding) (as' : List Activation) → length (with_binding b as') ≡ length as'
same_length b [] = refl
same_length b (a ∷ as') = refl

pub same_height : (b : Binding) (as' : List Activation) → newest_height (with_binding b as') ≡ newest_height as'
same_height b [] = refl
same_height b (a ∷ as') = refl

active_as :
    (units : UnitPlaces) (b : Binding) (as' : List Activation) (ls : List Layer) → AreActive units as' ls →
    AreActive units (with_binding b as') ls
active_as units b [] ls h = h
active_as units b (a ∷ as') [] h = absurd h
active_as units b (a ∷ as') (φ ∷ φs) h = (
  record { height = h.0.height; level = h.0.level; runs = h.0.runs; units = h.0.units; parent = h.0.parent },
  h.1,
)

frames_as :
    (parts : _) (base : ℕ) (m : List ℕ) (b : Binding) (as' : List Activation) (ls : List Layer) →
    FramesStand parts base m as' ls → FramesStand parts base m (with_binding b as') ls
frames_as parts base m b [] ls h = h
frames_as parts base m b (a ∷ as') [] h = absurd h
frames_as parts base m b (a ∷ as') (φ ∷ φs) h =
    frame_changed parts base m a as' φ φs
    (record {
      bindings = b ∷ a.bindings;
      own = a.units;
      units = φ.units;
      top = φ.top;
      carried = φ.carried;
    }) h

pub named_stands :
    {w : Surroundings} {code : List Instr} {p : Point} (x : Parameter) (serial : ℕ) → Stands w p × IsImage w code p →
    Stands w (named_as x serial p) × IsImage w code (named_as x serial p)
named_stands {w} {p = p} x serial known = (
  record {
    active = active_as w.units (binding_as x serial) p.state.activations p.control.layers known.0.active;
    laid = known.0.laid;
    low = subst (λ n. AreLow n p.state.living) (sym (same_length (binding_as x serial) p.state.activations))
        known.0.low;
    lives = record {
      falling = known.0.lives.falling;
      numbered = known.0.lives.numbered;
      extents = known.0.lives.extents;
    };
    owned = record {
      living = known.0.owned.living;
      heap = known.0.owned.heap;
      constants = known.0.owned.constants;
    };
    over = known.0.over;
    running = known.0.running;
    allowed = known.0.allowed;
  },
  record { keeper = known.1.keeper; layout = known.1.layout; parts = known.1.parts; even = known.1.even },
)

named_in :
    {w : Surroundings} {p : Point} {numbers : ℕ → ℕ} {index : ℕ} {b : Base} {z : Whole} (x : Parameter)
    (serial : ℕ) → IsIn w p numbers index b z → IsIn w (named_as x serial p) numbers index b z
named_in {w} {p} {b = b} {z = z} x serial o =
    record {
      services = o.services;
      at = record {
        pc = o.at.pc;
        frame = o.at.frame;
        top = o.at.top;
        registers = o.at.registers;
        room = o.at.room;
        frames = frames_as w.parts b.at z.machine.memory (binding_as x serial) p.state.activations p.control.layers
            o.at.frames;
        storage = same_now z.machine.memory o.at.storage;
      };
      zero = o.zero;
      bytes = o.bytes;
    }
  where
    same_now : (m : List ℕ) → Holds (now p m) → Holds (now (named_as x serial p) m)
    same_now m h =
        record {
          keeps = h.keeps;
          heap = record { at = h.heap.at; capacity = h.heap.capacity };
          lives = record { falling = h.lives.falling; numbered = h.lives.numbered; extents = h.lives.extents };
          stored = same_held p.keeper p.places p.state (named_as x serial p).state m refl refl h.stored;
          distinct = h.distinct;
        }

pub name_next :
    {w : Surroundings} {code : List Instr} {words n list : ℕ} {x : Parameter} {xs : List Parameter}
    {serial signature : ℕ} {ys : List Passing} {ψ φ : Layer} {φs : List Layer} {p : Point} →
    Binds w code words n list (x ∷ xs) (PassesName serial signature ∷ ys) ψ φ φs p →
    Binds w code words (suc n) list xs ys ψ φ φs (named_as x serial p)
name_next {x = x} {serial = serial} h =
    let known = named_stands x serial (h.stands, h.image) in
    let under = h.under in
    let inside = h.inside in
    let near = h.near in
    let many = h.many in
    record {
      stands = known.0;
      image = known.1;
      newest = h.newest;
      list_is = h.list_is;
      under = omega (arith, under);
      inside = omega (arith, inside);
      near = omega (arith, near);
      many = omega (arith, many);
      given = h.given.2;
      fits = h.fits;
      even = h.even;
      low = h.low;
      numbered = h.numbered.2;
      serial = h.serial;
    }

pub name_comes :
    {w : Surroundings} {code : List Instr} {p : Point} {numbers : ℕ → ℕ} {ψ φ : Layer} {φs : List Layer} {t : Part}
    (x : Parameter) (serial c index : ℕ) (f : Family) (k : Around w code p ψ φ φs t) → φ.waits t.last ≡ Some 0 →
    Linked w.links code index (copy_code t.place x.number) →
    ((b : Base) → IsIn w p numbers index b (f b) × KeepsList t.list b (f b)) →
    Reach code c f (services_of p) (c + size_of (copy_code t.place x.number)) (services_of (named_as x serial p))
    (λ b y. IsIn w (named_as x serial p) numbers (index + size_of (copy_code t.place x.number)) b y
    × KeepsList t.list b y)
name_comes {w} {code} {p} {t = t} x serial c index f k is l there =
    let h = point_frame k.stands k.image in
    let flag = flag_code t.place in
    let making = making_code t.place x.number in
    let l1 = back_of flag (skip_where Test.Equal u4 zero_register making) l in
    let r1 = flag_comes k h 0 c f is (front_of flag (skip_where Test.Equal u4 zero_register making) l) there in
    let r2 = skip_taken (c + 1) (reached r1) Test.Equal u4 zero_register making l1 (reached_holds r1)
    (λ b. let o = (reached_holds r1 b).holds in
    ap (λ u. u == (reached r1 b).machine.registers 0) o.regs.0 ∙ ap (λ u. 0 == u) (zero_is o.body)) in
    reach_map _ (reach_moved (omega arith) (omega arith) (reach_then r1 r2))
    (λ b y o. (named_in x serial (in_known h k.image.parts o), o.holds.regs.1.0))

-- ---- how much is in use

-- a copy's owner is the procedure's activation
height_some :
    {w : Surroundings} {p : Point} {ψ : Layer} {φs : List Layer} → Stands w p → p.control.layers ≡ ψ ∷ φs →
    (newest_height p.state.activations == 0) ≡ false
height_some {w} {p} {ψ} {φs} stands newest =
    let n = newest_of w.units p ψ φs stands.active newest in
    let height = n.is.height in
    let f : newest_height p.state.activations ≡ suc (length n.others) = ap newest_height n.first ∙ height in
    eqb-other (newest_height p.state.activations) 0 (λ e. omega (arith, f, e))

pub copy_used :
    {w : Surroundings} {code : List Instr} {words n list : ℕ} {x : Parameter} {xs : List Parameter} {z : ℤ}
    {ys : List Passing} {ψ φ : Layer} {φs : List Layer} {p : Point} →
    Binds w code words n list (x ∷ xs) (PassesCopy z ∷ ys) ψ φ φs p →
    automatic_in_use (copied_at (words + 6 * length ys) ψ φ φs (copy_with x z) p).state.living
    ≡ copy_takes + automatic_in_use p.state.living
copy_used {p = p} h =
    ap (λ q. cond q (automatic_in_use p.state.living) (copy_takes + automatic_in_use p.state.living))
    (height_some h.stands h.newest)

-- ---- all of them

-- the copies pass no limit
abbrev pub IsWithin : Point → List Passing → Type 0
IsWithin p ys = automatic_in_use p.state.living + copy_takes * copies_in ys ≤ most_automatic

pub within_first :
    (used many : ℕ) → used + copy_takes * suc many ≤ most_automatic → nat_le (used + copy_takes) most_automatic ≡ true
within_first used many few = grind (arith, few, nat_tests)

pub within_next :
    {w : Surroundings} {code : List Instr} {words n list : ℕ} {x : Parameter} {xs : List Parameter} {z : ℤ}
    {ys : List Passing} {ψ φ : Layer} {φs : List Layer} {p : Point} →
    Binds w code words n list (x ∷ xs) (PassesCopy z ∷ ys) ψ φ φs p → IsWithin p (PassesCopy z ∷ ys) →
    IsWithin (copied_at (words + 6 * length ys) ψ φ φs (copy_with x z) p) ys
within_next h few = let used = copy_used h in omega (arith, used, few)

pub bound_known :
    {w : Surroundings} {code : List Instr} (words n list : ℕ) (xs : List Parameter) (ys : List Passing)
    (ψ φ : Layer) (φs : List Layer) (p : Point) → Binds w code words n list xs ys ψ φ φs p →
    Stands w (bound_all words xs ys ψ φ φs p) × IsImage w code (bound_all words xs ys ψ φ φs p)
bound_known words n list [] ys ψ φ φs p h = (h.stands, h.image)
bound_known words n list (x ∷ xs) [] ψ φ φs p h = (h.stands, h.image)
bound_known words n list (x ∷ xs) (PassesCopy z ∷ ys) ψ φ φs p h =
    bound_known words (suc n) list xs ys (grown (copy_made_of ψ (copy_with x z)) ψ)
    (with_waits (name_told (words + 6 * length ys) (p.state.serials + 1) x.number 1 φ.waits) φ) φs
    (copied_at (words + 6 * length ys) ψ φ φs (copy_with x z) p) (copy_next h)
bound_known words n list (x ∷ xs) (PassesName serial signature ∷ ys) ψ φ φs p h =
    bound_known words (suc n) list xs ys ψ φ φs (named_as x serial p) (name_next h)

reach_to :
    {code : List Instr} {f : Family} {v v' : Services} {c c' c'' : ℕ} {Q : Base → Whole → Type 0} → c' ≡ c'' →
    Reach code c f v c' v' Q → Reach code c f v c'' v' Q
reach_to {code} {f} {v} {v'} {c} {Q = Q} e r = subst (λ n. Reach code c f v n v' Q) e r

pub bound_comes :
    {w : Surroundings} {code : List Instr} {numbers : ℕ → ℕ} (words n list : ℕ) (xs : List Parameter)
    (ys : List Passing) (ψ φ : Layer) (φs : List Layer) (p : Point) (c index : ℕ) (f : Family) →
    Binds w code words n list xs ys ψ φ φs p → IsWithin p ys → Linked w.links code index (copies_from n xs) →
    ((b : Base) → IsIn w p numbers index b (f b) × KeepsList list b (f b)) →
    Reach code c f (services_of p) (c + size_of (copies_from n xs)) (services_of (bound_all words xs ys ψ φ φs p))
    (λ b y. IsIn w (bound_all words xs ys ψ φ φs p) numbers (index + size_of (copies_from n xs)) b y)
bound_comes {w} {code} {numbers} words n list [] ys ψ φ φs p c index f h few l there =
    reach_to (omega arith)
    (stay code c f (services_of p) (λ b y. IsIn w p numbers (index + size_of (copies_from n [])) b y)
    (λ b. subst (λ j. IsIn w p numbers j b (f b)) (omega arith) (there b).0))
bound_comes words n list (x ∷ xs) [] ψ φ φs p c index f h few l there =
    absurd (let many = h.many in omega (arith, many))
bound_comes {w} {code} {numbers} words n list (x ∷ xs) (PassesCopy z ∷ ys) ψ φ φs p c index f h few l there =
    let one = copy_code n x.number in
    let rest = copies_from (suc n) xs in
    let size = size_append one rest in
    let r1 = copy_comes c index f (around h) (is_copy h)
    (within_first (automatic_in_use p.state.living) (copies_in ys) few) (front_of one rest l) there in
    let r2 = bound_comes words (suc n) list xs ys (grown (copy_made_of ψ (copy_with x z)) ψ)
    (with_waits (name_told (words + 6 * length ys) (p.state.serials + 1) x.number 1 φ.waits) φ) φs
    (copied_at (words + 6 * length ys) ψ φ φs (copy_with x z) p) (c + size_of one) (index + size_of one) (reached r1)
    (copy_next h) (within_next h few) (back_of one rest l) (reached_holds r1) in
    reach_map _ (reach_to (omega (arith, size)) (reach_then r1 r2))
    (λ b y o. subst (λ j. IsIn w (bound_all words (x ∷ xs) (PassesCopy z ∷ ys) ψ φ φs p) numbers j b y)
    (omega (arith, size)) o)
bound_comes {w} {code} {numbers} words n list (x ∷ xs) (PassesName serial signature ∷ ys) ψ φ φs p c index f h few l
    there =
    let one = copy_code n x.number in
    let rest = copies_from (suc n) xs in
    let size = size_append one rest in
    let r1 = name_comes x serial c index f (around h) h.given.1 (front_of one rest l) there in
    let r2 = bound_comes words (suc n) list xs ys ψ φ φs (named_as x serial p) (c + size_of one) (index + size_of one)
    (reached r1) (name_next h) few (back_of one rest l) (reached_holds r1) in
    reach_map _ (reach_to (omega (arith, size)) (reach_then r1 r2))
    (λ b y o. subst (λ j. IsIn w (bound_all words (x ∷ xs) (PassesName serial signature ∷ ys) ψ φ φs p) numbers j b y)
    (omega (arith, size)) o)
