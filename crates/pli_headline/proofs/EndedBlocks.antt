-- Blocks in one around them end together: what is left of them in the meaning and among the services.
use Rattle.std.proofs.Common.{◌≡◌, ℕ, zero, suc, ◌<◌, ◌≤◌, ◌⊎◌, inl, inr, List, [], ◌∷◌, length, Bool, true, false, refl, sym, ap, ◌∙◌, subst, arith}
use Rattle.std.specs.Prelude.{cond, nat_le, filter, ◌==◌}
use Rattle.std.proofs.lemmas.Bool.{eq-eqb}
use Rattle.std.proofs.lemmas.Bool.Decides.{nat_tests}
use Rattle.pli_meaning.specs.StorageState.{State, Living, with_world, newest_ended}
use Rattle.pli_serving.specs.ServiceState as S
use Rattle.pli_serving.specs.Blocks.{from_frame}
use Rattle.pli_types.specs.Templates.{Template}
use Rattle.pli_headline.specs.ProvedSoFar.{Names, Types}
use Rattle.pli_headline.proofs.Storages.{Storage, Serials, Stored, Alike}
use Rattle.pli_headline.proofs.Activations.{Nested, frames_of, entered_length, same_length}
use Rattle.pli_headline.proofs.Asides.{behind_aside}
use Rattle.pli_headline.proofs.Entered.{Frames, behind_kind, frames_left, kinds_of, UnitsKnown}
use Rattle.pli_headline.proofs.OuterBlocks.{Rises, risen_length, risen_least}
use Rattle.pli_headline.proofs.BeginMeant.{Outside, ended_input, behind_first, left_below, left_storage}
use Rattle.pli_headline.proofs.Statements.{AllHold, Beneath, ended_times}
use Rattle.pli_headline.proofs.Scalars.{Values}

-- the activations that are left, and what stands with them
pub record AllEnded (m : ℕ) (s : State) (xs : Storage) (frame level : ℕ) (left : Frames) (depths : List ℕ) (serials : Serials) (block : Names) (types : Types) (n : Values) : Type 0 where
  pub activation : S.Activation
  pub rest : List S.Activation
  pub found : from_frame frame xs.activations ≡ activation ∷ rest
  pub nested : Nested (ended_times m s).activations (activation ∷ rest)
  pub all : AllHold left serials (left_storage xs (activation ∷ rest)) (level ∷ depths) (ended_times m s) block types n
  pub world : (ended_times m s).world ≡ s.world
  pub input : (ended_times m s).input ≡ s.input

abbrev first_frame : List ℕ → ℕ
first_frame [] = 0
first_frame (x ∷ xs) = x

passed : (base frame : ℕ) (xs : List S.Activation) (x : S.Activation) → x.frame ≡ frame → base < frame → from_frame base (x ∷ xs) ≡ from_frame base xs
passed base frame xs x e above =
    let other : (x.frame == base) ≡ false = grind (arith, nat_tests) in
    ap (λ q. cond q (x ∷ xs) (from_frame base xs)) other

-- ---- what lives

-- what is kept is kept at once
filter_by : (q r : Bool) (p p' : S.Living → Bool) (l : S.Living) (ls : List S.Living) → p l ≡ q → p' l ≡ r → (p l ≡ true → p' l ≡ true) → filter p (filter p' ls) ≡ filter p ls → filter p (filter p' (l ∷ ls)) ≡ filter p (l ∷ ls)
filter_by q true p p' l ls e f more rest =
    ap (λ t. filter p (cond t (l ∷ filter p' ls) (filter p' ls))) f ∙ ap (λ us. cond (p l) (l ∷ us) us) rest
filter_by false false p p' l ls e f more rest =
    ap (λ t. filter p (cond t (l ∷ filter p' ls) (filter p' ls))) f ∙ rest ∙ sym (ap (λ t. cond t (l ∷ filter p ls) (filter p ls)) e)
filter_by true false p p' l ls e f more rest = let no : true ≡ false = sym (more e) ∙ f in absurd (cc no)

filter_twice : (p p' : S.Living → Bool) (ls : List S.Living) → ((l : S.Living) → p l ≡ true → p' l ≡ true) → filter p (filter p' ls) ≡ filter p ls
filter_twice p p' [] more = refl
filter_twice p p' (l ∷ ls) more = filter_by (p l) (p' l) p p' l ls refl refl (more l) (filter_twice p p' ls more)

lower_too : (n few most : ℕ) → few ≤ most → nat_le n few ≡ true → nat_le n most ≡ true
lower_too n few most less e = grind (arith, nat_tests)

-- all that lives is as low as it may be
none_higher : (templates : List Template) (most : ℕ) (ls : List Living) (ms : List S.Living) → Alike templates most ls ms → filter (λ l. nat_le l.owner most) ms ≡ ms
none_higher templates most [] [] h = refl
none_higher templates most (l ∷ ls) (m ∷ ms) h =
    let same = h.0.owner in
    let low = h.0.low in
    let t : nat_le m.owner most ≡ true = grind (arith, nat_tests) in
    ap (λ q. cond q (m ∷ filter (λ u. nat_le u.owner most) ms) (filter (λ u. nat_le u.owner most) ms)) t ∙ ap (λ us. m ∷ us) (none_higher templates most ls ms h.1)
none_higher templates most [] (m ∷ ms) h = absurd h
none_higher templates most (l ∷ ls) [] h = absurd h

-- ---- the blocks

none_ended : (s : State) (xs : Storage) (ys : List S.Activation) (frame level : ℕ) (frames : Frames) (behind depths : List ℕ) {serials : Serials} {block : Names} {types : Types} {n : Values} → xs.activations ≡ ys → frames.list ≡ frame ∷ behind → Nested s.activations ys → AllHold frames serials xs (level ∷ depths) s block types n → AllEnded 0 s xs frame level (frames_left 0 frame behind frames) depths serials block types n
none_ended s xs [] frame level frames behind depths known are nested all =
    let none : [] ≡ frame ∷ behind = ap frames_of (sym known) ∙ all.framed ∙ are in
    absurd (cc none)
none_ended s xs (y ∷ ys) frame level frames behind depths {serials} {block} {types} known are nested all =
    let framed : frames_of (y ∷ ys) ≡ frame ∷ behind = ap frames_of (sym known) ∙ all.framed ∙ are in
    let long = entered_length s.activations (level ∷ depths) all.entered in
    let served = same_length s.activations (y ∷ ys) nested in
    let most : length (y ∷ ys) ≡ suc (length depths) = omega (arith, long, served) in
    let low : filter (λ l. nat_le l.owner (length (y ∷ ys))) xs.living ≡ xs.living = ap (λ k. filter (λ l. nat_le l.owner k) xs.living) most ∙ none_higher xs.signatures (suc (length depths)) s.living xs.living all.stored.alike in
    record {
      activation = y;
      rest = ys;
      found = ap (from_frame frame) known ∙ ap (λ q. cond q (y ∷ ys) (from_frame frame ys)) (eq-eqb y.frame frame (ap first_frame framed));
      nested = nested;
      all = record {
        numbers = all.numbers;
        texts = all.texts;
        arrays = all.arrays;
        text_arrays = all.text_arrays;
        entered = all.entered;
        framed = framed;
        kinds = ap kinds_of (sym known) ∙ all.kinds;
        units = subst (UnitsKnown frames.known s.activations) known all.units;
        aside = all.aside;
        stored = subst (λ ms. Stored serials xs.signatures ms xs.serials (suc (length depths)) s.living s.serials block types) (sym low) all.stored;
      };
      world = refl;
      input = refl;
    }

-- variables of blocks no further in than the one that is left stand outside each that ends
outside_of : (level l top : ℕ) (depths : List ℕ) (serials : Serials) (block : Names) (types : Types) → (l ≡ suc top) ⊎ ((level ≡ 0) × (depths ≡ [])) → level ≤ top → Beneath level (suc (length depths)) serials block types → Outside l top block types
outside_of level l top depths serials block types (inl next) least below =
    inr (next, λ j kind at. let low = (below j kind at).0 in omega (arith, low, least))
outside_of level l top depths serials block types (inr lowest) least below =
    inl (λ j kind at. let low = (below j kind at).0 in let none = lowest.0 in omega (arith, low, none))

pub all_ended : (m frame level : ℕ) (frames : Frames) (list levels behind depths : List ℕ) (s : State) (xs : Storage) {serials : Serials} {block : Names} {types : Types} {n : Values} → frames.list ≡ list → Rises m frame level list levels behind depths → Beneath level (suc (length depths)) serials block types → Nested s.activations xs.activations → AllHold frames serials xs levels s block types n → AllEnded m s xs frame level (frames_left m frame behind frames) depths serials block types n
all_ended zero frame level frames list levels behind depths s xs {serials} {block} {types} {n} are rises beneath nested all =
    none_ended s xs xs.activations frame level frames behind depths refl (are ∙ rises.0) nested
    (subst (λ ls. AllHold frames serials xs ls s block types n) rises.1 all)
all_ended (suc m) frame level frames [] levels behind depths s xs are rises beneath nested all = absurd rises
all_ended (suc m) frame level frames (f ∷ fs) [] behind depths s xs are rises beneath nested all = absurd rises
all_ended (suc m) frame level frames (f ∷ fs) (l ∷ []) behind depths s xs are rises beneath nested all =
    absurd (let long = risen_length m frame level fs [] behind depths rises.1 in omega (arith, long))
all_ended (suc m) frame level frames (f ∷ fs) (l ∷ l' ∷ ls) behind depths s xs {serials} {block} {types} {n} are rises beneath nested all =
    let below : Frames = record { list = fs; kinds = behind_kind frames.kinds; asides = behind_aside frames.asides; known = frames.known } in
    let s' = with_world s.world (newest_ended s) in
    let long = risen_length m frame level fs (l' ∷ ls) behind depths rises.1 in
    let outside = outside_of level l l' depths serials block types rises.0.1 (risen_least m frame level fs (l' ∷ ls) behind depths rises.1) beneath in
    let o = left_below s xs frames below (ap behind_first are) refl refl (λ us vs u. u) nested outside (λ j kind at. let low = (beneath j kind at).1 in omega (arith, low, long)) all in
    let q = all_ended m frame level below fs (l' ∷ ls) behind depths s' (left_storage xs o.rest) refl rises.1 beneath o.nested o.all in
    let first : o.newest.frame ≡ f = ap first_frame (ap frames_of (sym o.are) ∙ all.framed ∙ are) in
    let left' = entered_length s'.activations (l' ∷ ls) o.all.entered in
    let served = same_length s'.activations o.rest o.nested in
    let left'' = entered_length (ended_times m s').activations (level ∷ depths) q.all.entered in
    let served' = same_length (ended_times m s').activations (q.activation ∷ q.rest) q.nested in
    let fewer : length (q.activation ∷ q.rest) ≤ length o.rest = omega (arith, left', served, left'', served', long) in
    let once = filter_twice (λ u. nat_le u.owner (length (q.activation ∷ q.rest))) (λ u. nat_le u.owner (length o.rest)) xs.living (λ u e. lower_too u.owner (length (q.activation ∷ q.rest)) (length o.rest) fewer e) in
    record {
      activation = q.activation;
      rest = q.rest;
      found = ap (from_frame frame) o.are ∙ passed frame f o.rest o.newest first rises.0.0 ∙ q.found;
      nested = q.nested;
      all = subst (λ ms. AllHold (frames_left m frame behind below) serials (record xs { activations = q.activation ∷ q.rest; living = ms }) (level ∷ depths) (ended_times m s') block types n) once q.all;
      world = q.world;
      input = q.input ∙ ended_input s;
    }
