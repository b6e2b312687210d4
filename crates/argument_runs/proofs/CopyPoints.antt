-- The point where the copy of an argument has been made: all that holds there, and what service 7 answers.
use Rattle.std.proofs.Common.{◌≡◌, ℕ, zero, suc, ◌+◌, ◌-◌, ◌*◌, ◌%◌, ◌^◌, ◌<◌, ◌≤◌, List, [], ◌∷◌, length, map, Bool}
use Rattle.std.proofs.Common.{true, false}
use Rattle.std.proofs.Common.{Option, Some, None, inl, inr, refl, sym, ap, ◌∙◌, subst, arith}
use Rattle.std.proofs.lemmas.Bool.{le-leb, lt-ltb}
use Rattle.std.proofs.lemmas.Bool.Decides.{nat_tests}
use Rattle.std.specs.Prelude.{cond, pos, ◌&&◌, ◌==◌, nat_le, nat_lt}
use Rattle.rv_meaning.specs.declared.instr.Instr.{Instr}
use Rattle.rv_meaning.specs.Machine.{memory_size}
use Rattle.rv_meaning.specs.Words.{word}
use Rattle.area_keeper.specs.KeptAreas.{with_part}
use Rattle.pli_typing.specs.Signatures.{Fixed, data_size}
use Rattle.pli_meaning.specs.BasicValues.{VariableName}
use Rattle.pli_meaning.specs.Contents.{Generation, footprint_of, fresh}
use Rattle.pli_meaning.specs.Control.{Normal, choose, finish, looked, stored, ◌>>=◌}
use Rattle.pli_meaning.specs.Making as K
use Rattle.pli_meaning.specs.Making.{living_at, plain, with_variable}
use Rattle.pli_meaning.specs.Numbers.{is_of_precision}
use Rattle.pli_meaning.specs.StorageState.{Activation, automatic_in_use, most_automatic, newest_height}
use Rattle.pli_meaning.specs.declared.outcome.End.TheVariants as E
use Rattle.pli_meaning.specs.declared.outcome.Limit.TheVariants as L
use Rattle.pli_serving.specs.ActsAndEnds.{run_ended}
use Rattle.pli_serving.specs.Answers.{Answer, Done}
use Rattle.pli_serving.specs.Arguments.{shape_of_number}
use Rattle.pli_serving.specs.Bytes as B
use Rattle.pli_serving.specs.InitialValues.{initial_values, none_initial}
use Rattle.pli_serving.specs.Making as G
use Rattle.pli_serving.specs.Outcomes.{bad_unless, or_bad}
use Rattle.pli_serving.specs.ServiceState as S
use Rattle.pli_serving.specs.Templates.{shape_at}
use Rattle.pli_serving.specs.Values.{generation_bytes}
use Rattle.storage_relation.specs.Changes.{IsMaking, Making, made}
use Rattle.storage_relation.specs.Served.{Holds, served_living}
use Rattle.storage_relation.specs.Standing.{IsValued}
use Rattle.storage_relation.proofs.Changes.{limit_same, made_holds, made_served}
use Rattle.storage_relation.proofs.Making.{begins_alone, same_held}
use Rattle.activation_relation.specs.Chains.{AreActive}
use Rattle.activation_relation.specs.FrameLaws.{with_waits}
use Rattle.activation_relation.specs.Frames.{AreLaid, frame_bytes, frame_start}
use Rattle.activation_relation.specs.Layers.{Layer, Point, activation_of, now, services_of}
use Rattle.activation_relation.specs.Owned.{AreOwned}
use Rattle.activation_relation.specs.Points.{AreOver, Stands, Surroundings}
use Rattle.activation_relation.specs.Variables.{FitsBlock}
use Rattle.activation_relation.proofs.Blocks.{newest_of, same_length}
use Rattle.activation_relation.proofs.BlockVariables.{variable_stands}
use Rattle.activation_relation.proofs.FrameWords.{words_covered}
use Rattle.activation_relation.proofs.OwnPlaces.{clear_within, frame_below_clear, free_clear}
use Rattle.run_steps.specs.Engine.{call_at}
use Rattle.run_steps.specs.Unlimited as U
use Rattle.block_runs.specs.Machines.{AreEven, IsImage}
use Rattle.block_runs.proofs.Places.{IsFrame, bounds, even_frame}
use Rattle.argument_runs.specs.Copies.{Copy, IsCopy, copied, copy_generation, copy_made_of}
use Rattle.argument_runs.specs.Lists.{given_waits, layered, list_under, named_waits}
use Rattle.argument_runs.proofs.GivenLists.{active_with, laid_with}

-- ---- around it

-- all that is asked of the point but that the copy passes no limit on what is AUTOMATIC
pub record IsAsked (w : Surroundings) (p : Point) (ψ φ : Layer) (φs : List Layer) (x : Copy) : Type 0 where
  pub newest : p.control.layers ≡ ψ ∷ with_waits (given_waits (word x.value)) φ ∷ φs
  pub list : ψ.list ≡ Some (list_under φ.at)
  pub words : 6 ≤ φ.words
  pub wide : is_of_precision 31 x.value ≡ true
  pub fits : ψ.top + 16 ≤ ψ.lower
  pub even : ψ.lower % 16 ≡ 0
  pub low : p.places.low ≤ w.parts.stack_start
  pub shape : shape_at p.places.signatures x.number ≡ Some (plain (Fixed 31))
  pub number : x.number < 2 ^ 31
  pub serial : p.state.serials + 1 < 2 ^ 64

pub asked_is :
    {w : Surroundings} {p : Point} {ψ φ : Layer} {φs : List Layer} {x : Copy} → IsCopy w p ψ φ φs x →
    IsAsked w p ψ φ φs x
asked_is h =
    record {
      newest = h.newest;
      list = h.list;
      words = h.words;
      wide = h.wide;
      fits = h.fits;
      even = h.even;
      low = h.low;
      shape = h.shape;
      number = h.number;
      serial = h.serial;
    }

pub record Around (w : Surroundings) (code : List Instr) (p : Point) (ψ φ : Layer) (φs : List Layer) (x : Copy) :
    Type 0 where
  pub stands : Stands w p
  pub image : IsImage w code p
  pub is : IsAsked w p ψ φ φs x

-- the caller's layer, with the value
abbrev pub given_layer : Layer → Copy → Layer
given_layer φ x = with_waits (given_waits (word x.value)) φ

abbrev pub layers_of : Layer → Layer → List Layer → Copy → List Layer
layers_of ψ φ φs x = ψ ∷ given_layer φ x ∷ φs

pub laid_here :
    {w : Surroundings} {code : List Instr} {p : Point} {ψ φ : Layer} {φs : List Layer} {x : Copy} →
    Around w code p ψ φ φs x → AreLaid w.parts (layers_of ψ φ φs x)
laid_here {w} k = subst (AreLaid w.parts) k.is.newest k.stands.laid

pub owned_here :
    {w : Surroundings} {code : List Instr} {p : Point} {ψ φ : Layer} {φs : List Layer} {x : Copy} →
    Around w code p ψ φ φs x → AreOwned p.keeper p.places p.state w.parts (layers_of ψ φ φs x)
owned_here {w} {p = p} k = subst (AreOwned p.keeper p.places p.state w.parts) k.is.newest k.stands.owned

-- where all of it lies
pub record Bounded (w : Surroundings) (ψ φ : Layer) : Type 0 where
  pub list : IsFrame (list_under φ.at)
  pub frame : IsFrame ψ.at
  pub words : frame_start φ ≤ list_under φ.at
  pub above : φ.at ≤ ψ.top
  pub start : w.parts.stack_start ≤ φ.at
  pub top : ψ.top ≤ ψ.lower
  pub room : ψ.lower + 2 ^ 12 ≤ 15 * 2 ^ 20
  pub below : φ.at + 48 ≤ ψ.at

pub bounded :
    {w : Surroundings} {code : List Instr} {p : Point} {ψ φ : Layer} {φs : List Layer} {x : Copy} →
    Around w code p ψ φ φs x → Bounded w ψ φ
bounded {w} {ψ = ψ} {φ = φ} {φs = φs} {x = x} k =
    let laid = laid_here k in
    let even = subst (AreEven w.parts) k.is.newest k.image.even in
    let o = bounds w.parts (layers_of ψ φ φs x) laid in
    let o' = bounds w.parts (given_layer φ x ∷ φs) laid.1 in
    let o'' = bounds w.parts φs laid.1.1 in
    let even' = even_frame w.parts (given_layer φ x ∷ φs) laid.1 even.1 in
    let even'' = even_frame w.parts (layers_of ψ φ φs x) laid even in
    let words = k.is.words in
    let covered = words_covered φ.words in
    let above = laid.1.0.above in
    let above' = laid.0.above in
    let fixed = laid.0.fixed in
    let fixed' = laid.1.0.fixed in
    let first = k.image.parts.high in
    let last = k.image.parts.inside in
    let low = o'.low in
    let low' = o.low in
    let between' = o'.above in
    let high = o.high in
    let free = o.free in
    let start = o''.low in
    let between = o''.above in
    record {
      list = record {
        whole = omega (arith, even', words, covered, above, start);
        high = omega (arith, words, covered, above, start, between, first);
        room = omega (arith, above', fixed, between', free, high, last);
      };
      frame = record {
        whole = omega (arith, even'');
        high = omega (arith, low', first);
        room = omega (arith, fixed, free, high, last);
      };
      words = omega (arith, words, covered, above);
      above = omega (arith, above', fixed, between');
      start = low;
      top = free;
      room = omega (arith, high, last);
      below = omega (arith, above', between');
    }

-- ---- the point

-- with anything told of the caller's words
pub below_stands :
    {w : Surroundings} {code : List Instr} {p : Point} {ψ φ : Layer} {φs : List Layer} {x : Copy}
    (waits : ℕ → Option ℕ) → Around w code p ψ φ φs x → Stands w (layered (ψ ∷ with_waits waits φ ∷ φs) p)
below_stands {w} {p = p} {ψ = ψ} {φ = φ} {φs = φs} {x = x} waits k =
    let laid = laid_here k in
    let owned = owned_here k in
    record {
      active = active_by p.state.activations (subst (AreActive w.units p.state.activations) k.is.newest
          k.stands.active);
      laid = (
        record {
          above = laid.0.above;
          fixed = laid.0.fixed;
          falls = laid.0.falls;
          free = laid.0.free;
          saved = laid.0.saved;
          told = laid.0.told;
        },
        laid_with w.parts (given_layer φ x) φs waits laid.1,
      );
      low = k.stands.low;
      lives = k.stands.lives;
      owned = record { living = owned.living; heap = owned.heap; constants = owned.constants };
      over = subst (AreOver p.control.entries p.control.edits) k.is.newest k.stands.over;
      running = k.stands.running;
      allowed = k.stands.allowed;
    }
  where
    active_by :
        (as' : List Activation) → AreActive w.units as' (layers_of ψ φ φs x) →
        AreActive w.units as' (ψ ∷ with_waits waits φ ∷ φs)
    active_by [] h = absurd h
    active_by (a ∷ as') h = (h.0, active_with w.units as' (given_layer φ x) φs waits h.1)

-- one number, whatever it is
copy_bytes : (x : Copy) → length (generation_bytes (copy_generation x)) ≡ 4
copy_bytes x = refl

fits_block :
    {w : Surroundings} {code : List Instr} {p : Point} {ψ φ : Layer} {φs : List Layer} {x : Copy}
    (waits : ℕ → Option ℕ) → Around w code p ψ φ φs x →
    FitsBlock w (layered (ψ ∷ with_waits waits φ ∷ φs) p) (copy_made_of ψ x) ψ (with_waits waits φ ∷ φs)
fits_block {w} {p = p} {ψ = ψ} {φ = φ} {φs = φs} {x = x} waits k =
    let fits = k.is.fits in
    let falls = (laid_here k).0.falls in
    record {
      newest = refl;
      upper = omega arith;
      falls = omega arith;
      free = omega (arith, fits);
      told = λ n v e. inl e;
      own = inr (omega arith, omega (arith, fits, falls));
      extent = refl;
      shape = k.is.shape;
    }

pub copied_stands :
    (w : Surroundings) (code : List Instr) (p : Point) (ψ φ : Layer) (φs : List Layer) (x : Copy) →
    Stands w p × IsImage w code p → IsCopy w p ψ φ φs x →
    Stands w (copied ψ φ φs x p) × IsImage w code (copied ψ φ φs x p)
copied_stands w code p ψ φ φs x known is =
    let k : Around w code p ψ φ φs x = record { stands = known.0; image = known.1; is = asked_is is } in
    let waits = named_waits (p.state.serials + 1) x.number in (
      variable_stands w (layered (ψ ∷ with_waits waits φ ∷ φs) p) (copy_made_of ψ x) ψ (with_waits waits φ ∷ φs)
          (below_stands waits k) (fits_block waits k),
      record {
        keeper = known.1.keeper;
        layout = known.1.layout;
        parts = known.1.parts;
        even = subst (AreEven w.parts) is.newest known.1.even;
      },
    )

pub copied_means :
    (w : Surroundings) (p : Point) (ψ φ : Layer) (φs : List Layer) (x : Copy) (acts : ℕ) → IsCopy w p ψ φ φs x →
    K.variable_made x.index (copy_generation x) acts p.state ≡ Normal tt (copied ψ φ φs x p).state
unfolding K.variable_made looked choose stored ◌>>=◌
copied_means w p ψ φ φs x acts is =
    ap (λ q. cond q (Normal tt (with_variable x.index (copy_generation x) p.state))
    (finish (E.Limit L.Automatic) acts p.state)) is.limit

-- ---- memory

abbrev pub copy_making : Point → Layer → Layer → Copy → Making
copy_making p ψ φ x =
    record {
      living = living_at (p.state.serials + 1) (newest_height p.state.activations) (copy_generation x);
      place = ψ.lower - 16;
      number = x.number;
      data_bytes = generation_bytes (copy_generation x);
      name = list_under φ.at;
      named = B.name_bytes (VariableName (p.state.serials + 1));
    }

-- the data hold a number of 4 bytes
abbrev pub copy_memory : Point → Layer → Layer → (data' : List ℕ) → List ℕ → List ℕ
copy_memory p ψ φ data' m =
    with_part (B.name_bytes (VariableName (p.state.serials + 1))) (list_under φ.at) (with_part data' (ψ.lower - 16) m)

copy_valued : (x : Copy) → is_of_precision 31 x.value ≡ true → IsValued (copy_generation x)
copy_valued x wide zero is less within = (omega arith, wide)
copy_valued x wide (suc leaf) is less within = absurd (omega (arith, less))

is_making :
    {w : Surroundings} {code : List Instr} {p : Point} {ψ φ : Layer} {φs : List Layer} {x : Copy} (m : List ℕ) →
    Around w code p ψ φ φs x → length m ≡ memory_size → IsMaking (now p m) (copy_making p ψ φ x)
is_making {w} {p = p} {ψ = ψ} {φ = φ} {φs = φs} {x = x} m k bytes =
    let o = bounded k in
    let list = o.list.room in
    let words = o.words in
    let above = o.above in
    let start = o.start in
    let room = o.room in
    let top = o.top in
    let fits = k.is.fits in
    let even = k.is.even in
    let low = k.is.low in
    let g = copy_generation x in
    let wide = k.is.wide in
    let laid = laid_here k in
    let fixed = laid.0.fixed in
    let spelled = begins_alone p.keeper p.places.signatures (p.state.serials + 1) (newest_height p.state.activations) g
    refl (tt, tt) (copy_valued x wide) in
    let clear = free_clear p.keeper p.places p.state w.parts (layers_of ψ φ φs x) (owned_here k) laid in
    record {
      serial = refl;
      extent = refl;
      shape = k.is.shape;
      long = spelled.0;
      stands = spelled.1;
      behind = omega (arith, low, start, above, fits);
      aligned = omega (arith, even, fits);
      room = omega (arith, room, bytes, fits);
      clear = clear_within p.keeper p.places p.state
          ψ.top (ψ.lower - ψ.top) (ψ.lower - 16) 4 clear (omega (arith, fits))
          (omega (arith, fits));
      name_room = omega (arith, list, bytes);
      name_clear = clear_within p.keeper p.places p.state (frame_start φ) (frame_bytes φ) (list_under φ.at) 16
          (frame_below_clear p.keeper p.places p.state w.parts ψ (given_layer φ x) φs (owned_here k) laid) words
          (omega (arith, words));
      beside = inr (omega (arith, fits, above));
    }

pub copied_holding :
    {w : Surroundings} {code : List Instr} {p : Point} {ψ φ : Layer} {φs : List Layer} {x : Copy} (m : List ℕ) →
    Around w code p ψ φ φs x → length m ≡ memory_size → Holds (now p m) →
    Holds (now (copied ψ φ φs x p) (copy_memory p ψ φ (generation_bytes (copy_generation x)) m))
copied_holding {w} {p = p} {ψ = ψ} {φ = φ} {φs = φs} {x = x} m k bytes h =
    let q = copied ψ φ φs x p in
    let o = made_holds (now p m) h (copy_making p ψ φ x) (is_making m k bytes) in
    let s = (made (copy_making p ψ φ x) (now p m)).state in
    record {
      keeps = o.keeps;
      heap = record { at = o.heap.at; capacity = o.heap.capacity };
      lives = record { falling = o.lives.falling; numbered = o.lives.numbered; extents = o.lives.extents };
      stored = same_held p.keeper q.places s q.state
          (copy_memory p ψ φ (generation_bytes (copy_generation x)) m) refl refl o.stored;
      distinct = o.distinct;
    }

-- ---- what service 7 answers

-- it begins with 0
abbrev pub zero_bytes : List ℕ
zero_bytes = 0 ∷ 0 ∷ 0 ∷ 0 ∷ []

owner_is :
    {w : Surroundings} {code : List Instr} {p : Point} {ψ φ : Layer} {φs : List Layer} {x : Copy} →
    Around w code p ψ φ φs x → S.height (services_of p) ≡ newest_height p.state.activations
owner_is {w} {p = p} {ψ = ψ} {φ = φ} {φs = φs} {x = x} k =
    let rest = given_layer φ x ∷ φs in
    let n = newest_of w.units p ψ rest k.stands.active k.is.newest in
    let many = same_length w.units n.others rest n.rest in
    let height = n.is.height in
    let e : S.height (services_of p) ≡ suc (length rest) =
    ap (λ ls. length (map activation_of ls)) k.is.newest ∙ ap (λ i. suc i) (mapped rest) in
    let f : newest_height p.state.activations ≡ suc (length n.others) = ap newest_height n.first ∙ height in
    omega (arith, e, f, many)
  where
    mapped : (ls : List Layer) → length (map activation_of ls) ≡ length ls
    mapped [] = refl
    mapped (l ∷ ls) = ap (λ i. suc i) (mapped ls)

owner_some : (height : ℕ) → 0 < height → G.owner_of 2 height ≡ Some height
owner_some height some = ap (λ q. cond q (Some height) None) (lt-ltb 0 height some)

pub owner_given : (p : Point) (ψ : Layer) (φs : List Layer) → p.control.layers ≡ ψ ∷ φs →
    G.owner_of 2 (S.height (services_of p)) ≡ Some (S.height (services_of p))
owner_given p ψ φs e =
    let n = ap (λ ls. length (map activation_of ls)) e in
    owner_some (S.height (services_of p)) (omega (arith, n))

abbrev living_made : Point → Layer → Copy → (owner : ℕ) → S.Living
living_made p ψ x owner =
    record { serial = p.state.serials + 1; owner = owner; signature = x.number; at = ψ.lower - 16 }

copied_services :
    {w : Surroundings} {code : List Instr} {p : Point} {ψ φ : Layer} {φs : List Layer} {x : Copy} (m : List ℕ) →
    Around w code p ψ φ φs x → length m ≡ memory_size → Holds (now p m) →
    G.with_living (living_made p ψ x (S.height (services_of p))) (services_of p) ≡ services_of (copied ψ φ φs x p)
copied_services {w} {p = p} {ψ = ψ} {φ = φ} {φs = φs} {x = x} m k bytes h =
    let v = services_of p in
    let q = copied ψ φ φs x p in
    let served' = made_served (now p m) h (copy_making p ψ φ x) (is_making m k bytes) in
    let layers : map activation_of q.control.layers ≡ map activation_of p.control.layers =
    sym (ap (λ ls. map activation_of ls) k.is.newest) in
    ap (λ o. G.with_living (living_made p ψ x o) v) (owner_is k)
    ∙ ap (λ ls. record v { serials = p.state.serials + 1; living = ls }) (sym served')
    ∙ ap (λ as'. record v {
      serials = p.state.serials + 1;
      living = map (served_living q.places) q.state.living;
      activations = as';
    }) (sym layers)

limit_kept :
    (q : Bool) (used : ℕ) → nat_le used most_automatic ≡ true → cond q false (nat_lt most_automatic used) ≡ false
limit_kept true used e = refl
limit_kept false used e = grind (arith, e, nat_tests)

abbrev pub zero_generation : Generation
zero_generation = fresh (plain (Fixed 31)) (pos 0) (none_initial (plain (Fixed 31)).signature.leaves)

pub copied_answer :
    {w : Surroundings} {code : List Instr} {p : Point} {ψ φ : Layer} {φs : List Layer} {x : Copy} (m m' : List ℕ) →
    Around w code p ψ φ φs x →
    nat_le (automatic_in_use p.state.living + footprint_of (copy_generation x)) most_automatic ≡ true →
    length m' ≡ memory_size → Holds (now p m') → 4 * length code ≤ 2 ^ 22 →
    U.make_served (call_at code (services_of p) m) (list_under φ.at) x.number 0 (ψ.lower - 16) 2
    ≡ Done (services_of (copied ψ φ φs x p)) (copy_memory p ψ φ zero_bytes m) (list_under φ.at) x.number
copied_answer {w} {code} {p} {ψ} {φ} {φs} {x} m m' k few bytes h small' =
    let v = services_of p in
    let c = call_at code v m in
    let g = zero_generation in
    let shape = plain (Fixed 31) in
    let name = list_under φ.at in
    let place = ψ.lower - 16 in
    let owner = S.height v in
    let o = bounded k in
    let low = o.list.high in
    let last = o.list.room in
    let above = o.above in
    let room = o.room in
    let fits = k.is.fits in
    let limit : G.passes_limit v owner g ≡ false =
    limit_same (now p m') h owner g ∙ limit_kept (owner == 0) _ few in
    let t1 : nat_le (4 * length code) place ≡ true = le-leb _ _ (omega (arith, low, above, fits, small')) in
    let t2 : nat_le (place + data_size shape.signature) memory_size ≡ true =
    le-leb _ _ (omega (arith, fits, room)) in
    let t3 : nat_le (4 * length code) name ≡ true = le-leb _ _ (omega (arith, low, small')) in
    let t4 : nat_le (name + 16) memory_size ≡ true = le-leb _ _ (omega (arith, last)) in
    let done : Answer = Done (G.with_living (living_made p ψ x owner) v) (copy_memory p ψ φ zero_bytes m) name
    x.number in
    ap (λ q. or_bad q (λ own. or_bad (shape_of_number c x.number) (λ s. or_bad (initial_values c s.signature.leaves 0)
    (λ values. U.limited c name x.number place own (fresh s (pos 0) values))))) (owner_given p ψ _ k.is.newest)
    ∙ ap (λ q. or_bad q (λ s. or_bad (initial_values c s.signature.leaves 0)
    (λ values. U.limited c name x.number place owner (fresh s (pos 0) values)))) k.is.shape
    ∙ ap (λ q. cond q (run_ended (E.Limit L.Automatic) v)
    (U.variable_made c name x.number place owner (p.state.serials + 1) g)) limit
    ∙ ap (λ q. bad_unless ((q && nat_le (place + data_size shape.signature) memory_size)
    && (nat_le (4 * length code) name && nat_le (name + 16) memory_size)) done) t1
    ∙ ap (λ q. bad_unless (q && (nat_le (4 * length code) name && nat_le (name + 16) memory_size)) done) t2
    ∙ ap (λ q. bad_unless (q && nat_le (name + 16) memory_size) done) t3
    ∙ ap (λ q. bad_unless q done) t4
    ∙ ap (λ u. Done u (copy_memory p ψ φ zero_bytes m) name x.number) (copied_services m' k bytes h)
