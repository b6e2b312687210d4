-- A variable that is made: memory has it and all that was there, all frames stand, and what service 7 answers.
use Rattle.std.proofs.Common.{◌≡◌, ℕ, suc, ◌+◌, ◌-◌, ◌*◌, ◌%◌, ◌^◌, ◌<◌, ◌≤◌, List, [], ◌∷◌, length, map, Bool}
use Rattle.std.proofs.Common.{true, false, None, Some, inl, inr, refl, sym, ap, ◌∙◌, subst, arith}
use Rattle.std.specs.Prelude.{cond, pos, ◌&&◌, ◌==◌, nat_le, nat_lt}
use Rattle.std.proofs.lemmas.Bool.{le-leb, lt-ltb}
use Rattle.std.proofs.lemmas.Bool.Decides.{nat_tests}
use Rattle.rv_meaning.specs.declared.instr.Instr.{Instr}
use Rattle.rv_meaning.specs.Machine.{memory_size}
use Rattle.rv_meaning.specs.Memory.{load}
use Rattle.pli_typing.specs.Signatures.{data_size}
use Rattle.pli_meaning.specs.BasicValues.{VariableName}
use Rattle.pli_meaning.specs.Contents.{fresh}
use Rattle.pli_meaning.specs.DeclaredShapes.{shape_of}
use Rattle.pli_meaning.specs.Making.{living_at, with_binding}
use Rattle.pli_meaning.specs.StorageState.{Activation, Binding, newest_height, most_automatic}
use Rattle.pli_meaning.specs.declared.outcome.End.TheVariants as E
use Rattle.pli_meaning.specs.declared.outcome.Limit.TheVariants as L
use Rattle.run_keeper.specs.RunKeeper.{run_keeper}
use Rattle.area_keeper.specs.KeptAreas.{with_part}
use Rattle.pli_serving.specs.ActsAndEnds.{run_ended}
use Rattle.pli_serving.specs.Answers.{Answer, Done}
use Rattle.pli_serving.specs.Arguments.{capacity_of, bytes_taken, shape_of_number}
use Rattle.pli_serving.specs.Bytes.{is_data}
use Rattle.pli_serving.specs.Bytes as B
use Rattle.pli_serving.specs.InitialValues.{initial_values}
use Rattle.pli_serving.specs.Making as G
use Rattle.pli_serving.specs.Outcomes.{or_bad, bad_unless}
use Rattle.pli_serving.specs.ServiceState as S
use Rattle.pli_serving.specs.ServiceState.{Services}
use Rattle.pli_serving.specs.Values.{generation_bytes}
use Rattle.pli_coding.specs.Frames.{MemoryParts, name_bytes}
use Rattle.pli_coding.specs.StaticForms.{initial_datum}
use Rattle.storage_relation.specs.Beginning.{place_if}
use Rattle.storage_relation.specs.Changes.{Making, IsMaking, made}
use Rattle.storage_relation.specs.Served.{Holds, served_living}
use Rattle.storage_relation.specs.Stored.{IsBeside}
use Rattle.storage_relation.proofs.Changes.{made_holds, made_served, limit_same}
use Rattle.storage_relation.proofs.Confined.{beside_written, beside_both}
use Rattle.storage_relation.proofs.Making.{begins_alone, same_held}
use Rattle.activation_relation.specs.Frames.{FramesStand, AreLaid, upper_top, lower_end}
use Rattle.activation_relation.specs.Layers.{Layer, Point, activation_of, now, services_of}
use Rattle.activation_relation.specs.Points.{Surroundings, Stands}
use Rattle.activation_relation.specs.Variables.{Made, FitsBlock, grown, newest_grown, with_made}
use Rattle.activation_relation.proofs.Blocks.{newest_of, same_length}
use Rattle.activation_relation.proofs.BlockVariables.{variable_stands}
use Rattle.activation_relation.proofs.FrameWords.{frames_kept, beside_above, told_over}
use Rattle.activation_relation.proofs.OwnPlaces.{free_clear, clear_within}
use Rattle.run_steps.specs.Engine.{call_at}
use Rattle.run_steps.specs.Unlimited as U
use Rattle.block_runs.specs.Machines.{AreEven, IsImage}
use Rattle.block_runs.proofs.Places.{bounds}
use Rattle.program_runs.specs.Initial.{MayBeMade}
use Rattle.program_runs.specs.Variables.{Declared, generation_for, made_of, place_behind}
use Rattle.program_runs.proofs.Initial.{values_read}

-- ---- around it

pub record Around (w : Surroundings) (code : List Instr) (p : Point) (x : Declared) (φ : Layer) (φs : List Layer) :
    Type 0 where
  pub stands : Stands w p
  pub image : IsImage w code p
  pub is : MayBeMade w code p x φ φs

pub laid_here :
    {w : Surroundings} {code : List Instr} {p : Point} {x : Declared} {φ : Layer} {φs : List Layer} →
    Around w code p x φ φs → AreLaid w.parts (φ ∷ φs)
laid_here {w} k = subst (AreLaid w.parts) k.is.newest k.stands.laid

-- numbers that bound its place
record Bounded (w : Surroundings) (p : Point) (x : Declared) (φ : Layer) : Type 0 where
  low : w.parts.stack_start ≤ φ.at
  high : φ.lower ≤ w.parts.stack_end
  last : w.parts.stack_end + 2 ^ 12 ≤ 15 * 2 ^ 20
  first : 7 * 2 ^ 20 ≤ w.parts.stack_start
  even : φ.top % 16 ≡ 0
  top : upper_top w.parts p.control.layers ≡ φ.top
  lower : lower_end w.parts p.control.layers ≡ φ.lower

bounded :
    {w : Surroundings} {code : List Instr} {p : Point} {x : Declared} {φ : Layer} {φs : List Layer} →
    Around w code p x φ φs → Bounded w p x φ
bounded {w} {φ = φ} {φs = φs} k =
    let o = bounds w.parts (φ ∷ φs) (laid_here k) in
    record {
      low = o.low;
      high = o.high;
      last = k.image.parts.inside;
      first = k.image.parts.high;
      even = (subst (AreEven w.parts) k.is.newest k.image.even).0;
      top = ap (λ ls. upper_top w.parts ls) k.is.newest;
      lower = ap (λ ls. lower_end w.parts ls) k.is.newest;
    }

pub place_small :
    {w : Surroundings} {code : List Instr} {p : Point} {x : Declared} {φ : Layer} {φs : List Layer} →
    Around w code p x φ φs → φ.at + place_behind w.parts x < 2 ^ 24
place_small k =
    let o = bounded k in
    let high = o.high in
    let last = o.last in
    let fits = k.is.fits in
    omega (arith, high, last, fits)

pub fits_block :
    {w : Surroundings} {code : List Instr} {p : Point} {x : Declared} {φ : Layer} {φs : List Layer} →
    Around w code p x φ φs → FitsBlock w p (made_of w.parts φ x) φ φs
fits_block {w} {p = p} {x = x} {φ = φ} k =
    let here = k.is.here in
    let holds = k.is.holds in
    let fixed = (laid_here k).0.fixed in
    let long = (begins_alone p.keeper p.places.signatures (p.state.serials + 1) (length p.control.layers)
    (generation_for x) k.is.plain k.is.values k.is.valued).0 in
    record {
      newest = k.is.newest;
      upper = omega (arith, here, holds);
      falls = omega arith;
      free = k.is.fits;
      told = λ n v e. inl e;
      own = inl (
        omega (arith, here, fixed),
        omega (arith, holds, long),
        told_over _ _ (laid_here k).0 (omega (arith, here)),
      );
      extent = refl;
      shape = k.is.shape;
    }

pub made_stands :
    {w : Surroundings} {code : List Instr} {p : Point} {x : Declared} {φ : Layer} {φs : List Layer} →
    Around w code p x φ φs →
    Stands w (with_made (made_of w.parts φ x) p) × IsImage w code (with_made (made_of w.parts φ x) p)
made_stands {w} {p = p} {x = x} {φ = φ} {φs = φs} k = (
  variable_stands w p (made_of w.parts φ x) φ φs k.stands (fits_block k),
  record {
    keeper = k.image.keeper;
    layout = k.image.layout;
    parts = k.image.parts;
    even = subst (λ ls. AreEven w.parts (newest_grown (made_of w.parts φ x) ls)) (sym k.is.newest)
        (k.is.even, (subst (AreEven w.parts) k.is.newest k.image.even).1);
  },
)

-- ---- memory

abbrev pub making_of : MemoryParts → Point → Layer → Declared → Making
making_of parts p φ x =
    record {
      living = living_at (p.state.serials + 1) (newest_height p.state.activations) (generation_for x);
      place = φ.at + (x.place + name_bytes);
      number = x.number;
      data_bytes = generation_bytes (generation_for x);
      name = φ.at + x.place;
      named = B.name_bytes (VariableName (p.state.serials + 1));
    }

abbrev pub made_memory : Point → Layer → Declared → List ℕ → List ℕ
made_memory p φ x m =
    with_part (B.name_bytes (VariableName (p.state.serials + 1))) (φ.at + x.place)
    (with_part (generation_bytes (generation_for x)) (φ.at + (x.place + name_bytes)) m)

is_making :
    {w : Surroundings} {code : List Instr} {p : Point} {x : Declared} {φ : Layer} {φs : List Layer} (m : List ℕ) →
    Around w code p x φ φs → length m ≡ memory_size → IsMaking (now p m) (making_of w.parts p φ x)
is_making {w} {p = p} {x = x} {φ = φ} m k bytes =
    let o = bounded k in
    let low = o.low in
    let high = o.high in
    let last = o.last in
    let even = o.even in
    let top = o.top in
    let lower = o.lower in
    let here = k.is.here in
    let holds = k.is.holds in
    let fits = k.is.fits in
    let start = k.is.low in
    let g = generation_for x in
    let spelled = begins_alone p.keeper p.places.signatures (p.state.serials + 1) (newest_height p.state.activations) g
    k.is.plain k.is.values k.is.valued in
    let upper = upper_top w.parts p.control.layers in
    let end = lower_end w.parts p.control.layers in
    let clear = free_clear p.keeper p.places p.state w.parts p.control.layers k.stands.owned k.stands.laid in
    record {
      serial = refl;
      extent = refl;
      shape = k.is.shape;
      long = spelled.0;
      stands = spelled.1;
      behind = omega (arith, start, low);
      aligned = omega (arith, even, here);
      room = omega (arith, holds, fits, high, last, bytes);
      clear = clear_within p.keeper p.places p.state
          upper (end - upper) (φ.at + (x.place + name_bytes)) (length (generation_bytes g))
          clear (omega (arith, top, here)) (omega (arith, top, lower, here, holds, fits));
      name_room = omega (arith, holds, fits, high, last, bytes);
      name_clear = clear_within p.keeper p.places p.state upper (end - upper) (φ.at + x.place) 16 clear
          (omega (arith, top, here)) (omega (arith, top, lower, here, holds, fits));
      beside = inr (omega arith);
    }

pub made_holding :
    {w : Surroundings} {code : List Instr} {p : Point} {x : Declared} {φ : Layer} {φs : List Layer} (m : List ℕ) →
    Around w code p x φ φs → length m ≡ memory_size → Holds (now p m) →
    Holds (now (with_made (made_of w.parts φ x) p) (made_memory p φ x m))
made_holding {w} {p = p} {x = x} {φ = φ} m k bytes h =
    let q = with_made (made_of w.parts φ x) p in
    let o = made_holds (now p m) h (making_of w.parts p φ x) (is_making m k bytes) in
    let s = (made (making_of w.parts p φ x) (now p m)).state in
    record {
      keeps = o.keeps;
      heap = record { at = o.heap.at; capacity = o.heap.capacity };
      lives = record { falling = o.lives.falling; numbered = o.lives.numbered; extents = o.lives.extents };
      stored = same_held p.keeper q.places s q.state (made_memory p φ x m) refl refl o.stored;
      distinct = o.distinct;
    }

-- ---- frames

pub frames_grown :
    (parts : MemoryParts) (base : ℕ) (m : List ℕ) (b : Binding) (y : Made) (as' : List Activation) (φ : Layer)
    (φs : List Layer) → (y.lower ≡ φ.lower) × ((n v : ℕ) → y.told n ≡ Some v → load 4 m (φ.at + n) ≡ v) →
    FramesStand parts base m as' (φ ∷ φs) →
    FramesStand parts base m (with_binding b as') (grown y φ ∷ φs)
frames_grown parts base m b y [] φ φs same h = absurd h
frames_grown parts base m b y (a ∷ as') φ φs same h = (
  record {
    back = h.0.back;
    below = h.0.below;
    saved = h.0.saved;
    own = h.0.own;
    lower = h.0.lower ∙ sym same.0;
    display_words = h.0.display_words;
    waits = h.0.waits;
    told = same.1;
    list = h.0.list;
  },
  h.1,
)

made_beside :
    {w : Surroundings} {code : List Instr} {p : Point} {x : Declared} {φ : Layer} {φs : List Layer} (m : List ℕ) →
    Around w code p x φ φs → length m ≡ memory_size →
    IsBeside (φ.at + x.place) (name_bytes + length (generation_bytes (generation_for x))) m (made_memory p φ x m)
made_beside {w} {p = p} {x = x} {φ = φ} m k bytes =
    let o = bounded k in
    let high = o.high in
    let last = o.last in
    let holds = k.is.holds in
    let fits = k.is.fits in
    let at = φ.at + x.place in
    let g = generation_bytes (generation_for x) in
    let named = B.name_bytes (VariableName (p.state.serials + 1)) in
    let n = name_bytes + length g in
    let e : at + name_bytes ≡ φ.at + (x.place + name_bytes) = omega arith in
    let z : at + 0 ≡ at = omega arith in
    let first = subst (λ i. IsBeside at n m (with_part g i m)) e
    (beside_written g at n name_bytes m (omega arith) (omega (arith, holds, fits, high, last, bytes))) in
    let long = first.as_many in
    let m' = with_part g (φ.at + (x.place + name_bytes)) m in
    let second = subst (λ i. IsBeside at n m' (with_part named i m')) z
    (beside_written named at n 0 m' (omega arith) (omega (arith, holds, fits, high, last, bytes, long))) in
    beside_both at n m m' (made_memory p φ x m) first second

-- the frames that were there stand
pub frames_stay :
    {w : Surroundings} {code : List Instr} {p : Point} {x : Declared} {φ : Layer} {φs : List Layer} (base : ℕ)
    (m : List ℕ) → Around w code p x φ φs → length m ≡ memory_size →
    FramesStand w.parts base m p.state.activations p.control.layers →
    FramesStand w.parts base (made_memory p φ x m) p.state.activations (φ ∷ φs)
frames_stay {w} {p = p} {x = x} {φ = φ} {φs = φs} base m k bytes frames =
    let o = bounded k in
    let top = o.top in
    let here = k.is.here in
    let new = made_memory p φ x m in
    let at = φ.at + x.place in
    let n = name_bytes + length (generation_bytes (generation_for x)) in
    let kept = frames_kept w.parts base at n m new p.state.activations p.control.layers frames k.stands.laid
    (beside_above w.parts at n p.control.layers k.stands.laid (omega (arith, top, here))) (made_beside m k bytes) in
    subst (FramesStand w.parts base new p.state.activations) k.is.newest kept

pub told_there :
    (parts : MemoryParts) (base : ℕ) (m : List ℕ) (as' : List Activation) (φ : Layer) (φs : List Layer) →
    FramesStand parts base m as' (φ ∷ φs) → (n v : ℕ) → φ.told n ≡ Some v → load 4 m (φ.at + n) ≡ v
told_there parts base m [] φ φs h n v e = absurd h
told_there parts base m (a ∷ as') φ φs h n v e = h.0.told n v e

pub made_frames :
    {w : Surroundings} {code : List Instr} {p : Point} {x : Declared} {φ : Layer} {φs : List Layer} (base : ℕ)
    (m : List ℕ) → Around w code p x φ φs → length m ≡ memory_size →
    FramesStand w.parts base m p.state.activations p.control.layers →
    FramesStand w.parts base (made_memory p φ x m) (with_made (made_of w.parts φ x) p).state.activations
    (with_made (made_of w.parts φ x) p).control.layers
made_frames {w} {p = p} {x = x} {φ = φ} {φs = φs} base m k bytes frames =
    let new = made_memory p φ x m in
    let kept = frames_stay base m k bytes frames in
    subst (λ ls. FramesStand w.parts base new (with_made (made_of w.parts φ x) p).state.activations
    (newest_grown (made_of w.parts φ x) ls)) (sym k.is.newest)
    (frames_grown w.parts base new _ (made_of w.parts φ x) p.state.activations φ φs
    (refl, told_there w.parts base new p.state.activations φ φs kept) kept)

pub made_length :
    {w : Surroundings} {code : List Instr} {p : Point} {x : Declared} {φ : Layer} {φs : List Layer} (m : List ℕ) →
    Around w code p x φ φs → length m ≡ memory_size → length (made_memory p φ x m) ≡ memory_size
made_length m k bytes = (made_beside m k bytes).as_many ∙ bytes

-- ---- what service 7 answers

owner_is :
    {w : Surroundings} {code : List Instr} {p : Point} {x : Declared} {φ : Layer} {φs : List Layer} →
    Around w code p x φ φs → S.height (services_of p) ≡ newest_height p.state.activations
owner_is {w} {p = p} {φ = φ} {φs = φs} k =
    let n = newest_of w.units p φ φs k.stands.active k.is.newest in
    let many = same_length w.units n.others φs n.rest in
    let height = n.is.height in
    let e : S.height (services_of p) ≡ suc (length φs) =
    ap (λ ls. length (map activation_of ls)) k.is.newest ∙ ap (λ i. suc i) (mapped φs) in
    let f : newest_height p.state.activations ≡ suc (length n.others) = ap newest_height n.first ∙ height in
    omega (arith, e, f, many)
  where
    mapped : (ls : List Layer) → length (map activation_of ls) ≡ length ls
    mapped [] = refl
    mapped (l ∷ ls) = ap (λ i. suc i) (mapped ls)

owner_some : (height : ℕ) → 0 < height → G.owner_of 0 height ≡ Some height
owner_some height some = ap (λ q. cond q (Some height) None) (lt-ltb 0 height some)

owner_given : (p : Point) (φ : Layer) (φs : List Layer) → p.control.layers ≡ φ ∷ φs →
    G.owner_of 0 (S.height (services_of p)) ≡ Some (S.height (services_of p))
owner_given p φ φs e =
    let n = ap (λ ls. length (map activation_of ls)) e in
    owner_some (S.height (services_of p)) (omega (arith, n))

abbrev living_made : Point → Layer → Declared → (owner : ℕ) → S.Living
living_made p φ x owner =
    record {
      serial = p.state.serials + 1;
      owner = owner;
      signature = x.number;
      at = φ.at + (x.place + name_bytes);
    }

made_services :
    {w : Surroundings} {code : List Instr} {p : Point} {x : Declared} {φ : Layer} {φs : List Layer} (m : List ℕ) →
    Around w code p x φ φs → length m ≡ memory_size → Holds (now p m) →
    G.with_living (living_made p φ x (S.height (services_of p))) (services_of p)
    ≡ services_of (with_made (made_of w.parts φ x) p)
made_services {w} {p = p} {x = x} {φ = φ} m k bytes h =
    let v = services_of p in
    let served' = made_served (now p m) h (making_of w.parts p φ x) (is_making m k bytes) in
    let layers : map activation_of (newest_grown (made_of w.parts φ x) p.control.layers)
    ≡ map activation_of p.control.layers =
    ap (λ ls. map activation_of (newest_grown (made_of w.parts φ x) ls)) k.is.newest
    ∙ sym (ap (λ ls. map activation_of ls) k.is.newest) in
    ap (λ o. G.with_living (living_made p φ x o) v) (owner_is k)
    ∙ ap (λ ls. record v { serials = p.state.serials + 1; living = ls }) (sym served')
    ∙ ap (λ as'. record v {
      serials = p.state.serials + 1;
      living = map (served_living (with_made (made_of w.parts φ x) p).places)
          (with_made (made_of w.parts φ x) p).state.living;
      activations = as';
    }) (sym layers)

limit_kept :
    (q : Bool) (used : ℕ) → nat_le used most_automatic ≡ true → cond q false (nat_lt most_automatic used) ≡ false
limit_kept true used e = refl
limit_kept false used e = grind (arith, e, nat_tests)

-- where the values stand that it begins with
abbrev pub values_place :
    {w : Surroundings} {code : List Instr} {p : Point} {x : Declared} {φ : Layer} {φs : List Layer} →
    Around w code p x φ φs → ℕ
values_place {w} {x = x} k = place_if w.links.data' (initial_datum x.declared)

pub made_answer :
    {w : Surroundings} {code : List Instr} {p : Point} {x : Declared} {φ : Layer} {φs : List Layer} (m : List ℕ)
    (k : Around w code p x φ φs) → length m ≡ memory_size → Holds (now p m) → 4 * length code ≤ 2 ^ 22 →
    0 < length code →
    U.make_served (call_at code (services_of p) m) (φ.at + x.place) x.number (values_place k)
    (φ.at + (x.place + name_bytes)) 0
    ≡ Done (services_of (with_made (made_of w.parts φ x) p)) (made_memory p φ x m) (φ.at + x.place) x.number
made_answer {w} {code} {p} {x} {φ} {φs} m k bytes h small' some =
    let v = services_of p in
    let c = call_at code v m in
    let g = generation_for x in
    let shape = shape_of [] x.declared in
    let name = φ.at + x.place in
    let place = φ.at + (x.place + name_bytes) in
    let owner = S.height v in
    let o = bounded k in
    let low = o.low in
    let first = o.first in
    let high = o.high in
    let last = o.last in
    let fits = k.is.fits in
    let size = k.is.size in
    let limit : G.passes_limit v owner g ≡ false =
    limit_same (now p m) h owner g ∙ limit_kept (owner == 0) _ k.is.limit in
    let t1 : nat_le (4 * length code) place ≡ true = le-leb _ _ (omega (arith, low, first, small')) in
    let t2 : nat_le (place + data_size shape.signature) memory_size ≡ true =
    le-leb _ _ (omega (arith, size, fits, high, last)) in
    let t3 : nat_le (4 * length code) name ≡ true = le-leb _ _ (omega (arith, low, first, small')) in
    let t4 : nat_le (name + 16) memory_size ≡ true = le-leb _ _ (omega (arith, size, fits, high, last)) in
    let done : Answer = Done (G.with_living (living_made p φ x owner) v)
    (with_part (B.name_bytes (VariableName (p.state.serials + 1))) name
    (with_part (G.bytes_made c place g (capacity_of shape)) place m)) name x.number in
    let bytes_of : Services → Answer = λ u. Done u (made_memory p φ x m) name x.number in
    ap (λ q. or_bad q (λ own. or_bad (shape_of_number c x.number) (λ s. or_bad
    (initial_values c s.signature.leaves (values_place k))
    (λ values. U.limited c name x.number place own (fresh s (pos 0) values))))) (owner_given p φ φs k.is.newest)
    ∙ ap (λ q. or_bad q (λ s. or_bad (initial_values c s.signature.leaves (values_place k))
    (λ values. U.limited c name x.number place owner (fresh s (pos 0) values)))) k.is.shape
    ∙ ap (λ values. or_bad values (λ given. U.limited c name x.number place owner (fresh shape (pos 0) given)))
    (values_read code p w.links.data' x.declared m k.is.initial some bytes h)
    ∙ ap (λ q. cond q (run_ended (E.Limit L.Automatic) v)
    (U.variable_made c name x.number place owner (p.state.serials + 1) g)) limit
    ∙ ap (λ q. bad_unless ((nat_le (4 * length code) place
    && nat_le (place + bytes_taken run_keeper shape q) memory_size)
    && (nat_le (4 * length code) name && nat_le (name + 16) memory_size)) done) k.is.fixed
    ∙ ap (λ q. bad_unless ((q && nat_le (place + data_size shape.signature) memory_size)
    && (nat_le (4 * length code) name && nat_le (name + 16) memory_size)) done) t1
    ∙ ap (λ q. bad_unless (q && (nat_le (4 * length code) name && nat_le (name + 16) memory_size)) done) t2
    ∙ ap (λ q. bad_unless (q && nat_le (name + 16) memory_size) done) t3
    ∙ ap (λ q. bad_unless q done) t4
    ∙ ap (λ q. Done (G.with_living (living_made p φ x owner) v)
    (with_part (B.name_bytes (VariableName (p.state.serials + 1))) name
    (with_part (G.bytes_made c place g q) place m)) name x.number) k.is.fixed
    ∙ ap bytes_of (made_services m k bytes h)
