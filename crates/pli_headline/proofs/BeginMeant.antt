-- What a block without declarations of its own means inside the main procedure, and the states that it is entered and left with.
use Rattle.std.proofs.Common.{◌≡◌, ℕ, suc, ◌+◌, ◌<◌, ◌≤◌, ◌⊎◌, inl, inr, List, [], ◌∷◌, length, Option, Some, true, false, refl, sym, ap, ◌∙◌, subst, arith, ◌^◌, lit<}
use Rattle.std.specs.Prelude.{cond, nat_lt, nat_le, filter, slice_get, ◌==◌}
use Rattle.std.proofs.lemmas.Bool.Decides.{nat_tests}
use Rattle.pli_typing.specs.TypedTree as Y
use Rattle.pli_meaning.specs.declared.outcome.End.TheVariants as E
use Rattle.pli_meaning.specs.declared.outcome.Limit.TheVariants as L
use Rattle.pli_meaning.specs.BasicValues.{BasicValue}
use Rattle.pli_meaning.specs.DeclaredShapes.{variables_of_block}
use Rattle.pli_meaning.specs.StorageState.{State, Activation, with_world, newest_height, newest_ended, without_newest, without_owner, ancestor, binding_in, generation_of, living_of, most_activations}
use Rattle.pli_meaning.specs.Control.{Meaning, flow_on, left, give, looked, stored, choose, leaving, finish, ◌>>=◌, ◌>>◌}
use Rattle.pli_meaning.specs.Raising.{Around, Entry}
use Rattle.pli_meaning.specs.Making as K
use Rattle.pli_meaning.specs.Executing as M
use Rattle.pli_serving.specs.ServiceState as S
use Rattle.pli_headline.specs.ProvedSoFar.{Names, Kind, Types}
use Rattle.pli_headline.proofs.Activations.{IsNested, IsOrdinary, Nested, frames_of, ancestor_inside, ancestor_around, first_level, levels_of, behind_level, entered_length, same_length, newest_level, newest_of_levels, direct_parent}
use Rattle.pli_headline.proofs.Asides.{StandAside, behind_aside, asides_left}
use Rattle.pli_headline.proofs.Entered.{Frames, atop, kinds_of, kinds_above, kinds_behind, behind_kind, first_kind, AreKnown, UnitsKnown, Way, way_of}
use Rattle.pli_headline.proofs.Variables.{level_of, AllOutermost}
use Rattle.pli_headline.proofs.Storages.{Storage, Serials, Stored, stored_higher, stored_left, lives_left}
use Rattle.pli_headline.proofs.Statements.{AllHold}
use Rattle.pli_headline.proofs.Scalars.{Values}

-- ---- around the statements of a block inside another

-- blocks may be entered so many deep
pub record Entering (program : Y.Program) (around : Around) (more : ℕ) : Type 1 where
  pub enter : around.enter ≡ M.entered program more
  pub turns : around.turns ≡ suc more

abbrev pub inner_around : Y.Program → (more line : ℕ) → Around
inner_around program more line =
    record { program = program; enter = M.entered program more; turns = suc more; line = line }

pub inner_entering : (program : Y.Program) (more line : ℕ) → Entering program (inner_around program more line) more
inner_entering program more line = record { enter = refl; turns = refl }

-- ---- the meaning

abbrev pub begun_in : Y.BlockHead → Y.Stmts → State → Entry
begun_in head body s = M.begun (Y.BlockOf head body) (newest_height s.activations)

-- inside an activation of some height, its static parent
abbrev pub entered_at : (parent : ℕ) → Y.BlockHead → Y.Stmts → State → State
entered_at parent head body s = with_world s.world (M.with_activation head (M.begun (Y.BlockOf head body) parent) s)

abbrev pub entered_state : Y.BlockHead → Y.Stmts → State → State
entered_state head body s = entered_at (newest_height s.activations) head body s

-- the block where it stands, behind its act
abbrev pub begin_part : Around → Y.BlockHead → Y.Stmts → Meaning (Unit {0})
begin_part around head body =
    looked >>= (λ s. around.enter (M.begun (Y.BlockOf head body) (newest_height s.activations)) >> give tt)

-- its statements, and its end
abbrev pub inner_part : Y.Program → (more : ℕ) → Y.BlockHead → Y.Stmts → Meaning (Unit {0})
inner_part program more head body =
    M.block_list (inner_around program more head.line) body false

-- where too many blocks are entered the run ends
pub begin_limited : (around : Around) (program : Y.Program) (more : ℕ) (head : Y.BlockHead) (body : Y.Stmts) (k : ℕ) (s : State) → around.enter ≡ M.entered program (suc more) → nat_lt (length s.activations) most_activations ≡ false → begin_part around head body k s ≡ flow_on k (finish {R = Option BasicValue} (E.Limit L.Depth) k s) (λ u. give tt)
unfolding M.entered M.block_run leaving stored looked choose give ◌>>=◌ ◌>>◌
begin_limited around program more head body k s enter many =
    let here = inner_around program more head.line in
    let entry = begun_in head body s in
    let s1 = entered_state head body s in
    let last : Option BasicValue → Meaning (Unit {0}) = λ u. give tt in
    ap (λ enters. flow_on k (enters entry k s) last) enter
    ∙ ap (λ q. flow_on k (cond q (left (M.is_own_return head.kind) newest_ended (M.block_body here head body entry k s1)) (finish (E.Limit L.Depth) k s)) last) many

-- its variables are made one behind the other
pub begin_declares : (program : Y.Program) (around : Around) (more : ℕ) (head : Y.BlockHead) (body : Y.Stmts) (k : ℕ) (s : State) → around.enter ≡ M.entered program (suc more) → head.kind ≡ Y.BeginBlock → nat_lt (length s.activations) most_activations ≡ true → begin_part around head body k s ≡ flow_on k (left false newest_ended (flow_on k (K.variables_made (inner_around program more head.line) 0 (variables_of_block program head.number) k (entered_state head body s)) (λ u. inner_part program more head body))) (λ u. give tt)
unfolding M.entered M.block_run M.block_body M.block_variables_made M.entry_act K.parameters_bound leaving stored looked choose give ◌>>=◌ ◌>>◌
begin_declares program around more head body k s enter kind few =
    let here = inner_around program more head.line in
    let entry = begun_in head body s in
    let s1 = entered_state head body s in
    let last : Option BasicValue → Meaning (Unit {0}) = λ u. give tt in
    let statements : Meaning (Unit {0}) = inner_part program more head body in
    ap (λ enters. flow_on k (enters entry k s) last) enter
    ∙ ap (λ q. flow_on k (cond q (left (M.is_own_return head.kind) newest_ended (M.block_body here head body entry k s1)) (finish (E.Limit L.Depth) k s)) last) few
    ∙ ap (λ kind'. flow_on k (left (M.is_own_return kind') newest_ended (flow_on k (M.block_variables_made here head kind' k s1) (λ u. M.entry_act kind' >> statements))) last) kind

pub begin_meant : (program : Y.Program) (around : Around) (more : ℕ) (head : Y.BlockHead) (body : Y.Stmts) (k : ℕ) (s : State) → around.enter ≡ M.entered program (suc more) → head.kind ≡ Y.BeginBlock → variables_of_block program head.number ≡ [] → nat_lt (length s.activations) most_activations ≡ true → begin_part around head body k s ≡ flow_on k (left false newest_ended (inner_part program more head body k (entered_state head body s))) (λ u. give tt)
unfolding K.variables_made give
begin_meant program around more head body k s enter kind none few =
    let here = inner_around program more head.line in
    let s1 = entered_state head body s in
    let last : Option BasicValue → Meaning (Unit {0}) = λ u. give tt in
    begin_declares program around more head body k s enter kind few
    ∙ ap (λ ds. flow_on k (left false newest_ended (flow_on k (K.variables_made here 0 ds k s1) (λ u. inner_part program more head body))) last) none

-- ---- the state in which it is entered

-- with what its activation is given
abbrev pub entered_by : Y.BlockHead → Entry → State → State
entered_by head entry s = with_world s.world (M.with_activation head entry s)

inner_nested : (head : Y.BlockHead) (entry : Entry) (s : State) → entry.oncode < 2 ^ 16 → 0 < head.level → 0 < length s.activations → 1 ≤ entry.parent → entry.parent ≤ length s.activations → (head.level ≡ suc (first_level (levels_of s.activations)) → entry.parent ≡ length s.activations) → IsNested (length s.activations) (first_level (levels_of s.activations)) (M.activation_of head entry (length s.activations + 1))
inner_nested head entry s code level some low high direct =
    record { height = omega arith; first = λ none. absurd (omega (arith, none, some)); inside = λ u. (level, (low, high)); direct = direct; oncode = code; units = tt }

pub raised_nested : (head : Y.BlockHead) (entry : Entry) (s : State) (xs : List S.Activation) (x : S.Activation) → entry.oncode < 2 ^ 16 → 0 < head.level → 0 < length s.activations → 1 ≤ entry.parent → entry.parent ≤ length s.activations → (head.level ≡ suc (first_level (levels_of s.activations)) → entry.parent ≡ length s.activations) → IsOrdinary entry.oncode x → Nested s.activations xs → Nested (entered_by head entry s).activations (x ∷ xs)
raised_nested head entry s xs x code level some low high direct ordinary nested =
    (inner_nested head entry s code level some low high direct, (ordinary, nested))

pub entered_nested : (head : Y.BlockHead) (body : Y.Stmts) (s : State) (xs : List S.Activation) (x : S.Activation) (parent : ℕ) → 0 < head.level → 0 < length s.activations → 1 ≤ parent → parent ≤ length s.activations → (head.level ≡ suc (first_level (levels_of s.activations)) → parent ≡ length s.activations) → IsOrdinary 0 x → Nested s.activations xs → Nested (entered_at parent head body s).activations (x ∷ xs)
entered_nested head body s xs x parent level some low high direct ordinary nested =
    raised_nested head (M.begun (Y.BlockOf head body) parent) s xs x (lit< tt) level some low high direct ordinary nested

-- variables of blocks around are seen from a block of a level inside one of another
abbrev pub Outside : (top outer : ℕ) → Names → Types → Type 0
Outside top outer block types =
    AllOutermost block types
    ⊎ ((top ≡ suc outer) × ((j : ℕ) (kind : Kind) → slice_get types j ≡ Some kind → level_of block j ≤ outer))

-- they stand for what they stood for
seen_inside : (a : Activation) (as' : List Activation) (x : S.Activation) (xs : List S.Activation) (n outer : ℕ) (block : Names) (types : Types) → Nested (a ∷ as') (x ∷ xs) → length as' ≡ suc n → newest_level as' ≡ outer → Outside a.level outer block types → (j : ℕ) (kind : Kind) → slice_get types j ≡ Some kind → ancestor (a ∷ as') (newest_height (a ∷ as')) (level_of block j) ≡ ancestor as' (newest_height as') (level_of block j)
seen_inside a as' x xs n outer block types nested long level (inl outermost) j kind at =
    subst (λ l. ancestor (a ∷ as') (newest_height (a ∷ as')) l ≡ ancestor as' (newest_height as') l) (sym (outermost j kind at)) (ancestor_inside a as' x xs n nested long)
seen_inside a as' x xs n outer block types nested long level (inr o) j kind at =
    let next = o.0 in
    let low = o.1 j kind at in
    let other : (a.level == level_of block j) ≡ false = grind (arith, nat_tests) in
    ancestor_around a as' (level_of block j) other (direct_parent a as' x xs nested (omega (arith, long)) (omega (arith, next, level)))

pub raised_all : (head : Y.BlockHead) (entry : Entry) (s : State) (xs : Storage) (x : S.Activation) {frames : Frames} {serials : Serials} {outer : ℕ} {levels : List ℕ} {block : Names} {types : Types} {n : Values} → entry.oncode < 2 ^ 16 → 0 < head.level → 1 ≤ entry.parent → entry.parent ≤ length s.activations → (head.level ≡ suc (first_level (levels_of s.activations)) → entry.parent ≡ length s.activations) → IsOrdinary entry.oncode x → x.units ≡ [] → Outside head.level outer block types → Nested s.activations xs.activations → AllHold frames serials xs (outer ∷ levels) s block types n → AllHold (atop x.frame (way_of x) frames) serials (record xs { activations = x ∷ xs.activations }) (head.level ∷ outer ∷ levels) (entered_by head entry s) block types n
raised_all head entry s xs x {frames = frames} {serials = serials} {outer = outer} {levels = levels} {block = block} {types = types} code level low high direct units none outside nested all =
    let long = entered_length s.activations (outer ∷ levels) all.entered in
    let served = same_length s.activations xs.activations nested in
    let a = M.activation_of head entry (length s.activations + 1) in
    let newest = newest_of_levels s.activations outer levels all.entered in
    let same : (j : ℕ) (kind : Kind) → slice_get types j ≡ Some kind → ancestor (a ∷ s.activations) (newest_height (a ∷ s.activations)) (level_of block j) ≡ ancestor s.activations (newest_height s.activations) (level_of block j) = seen_inside a s.activations x xs.activations (length levels) outer block types (raised_nested head entry s xs.activations x code level (omega (arith, long)) low high direct units nested) long newest outside in
    record {
      numbers = λ j b numeric.
          let h = all.numbers j b numeric in
          record { values = h.values; stands = ap (λ o. binding_in o (block.at j).index) (same j _ b.1) ∙ h.stands; lives = h.lives; value = h.value; fits = h.fits };
      texts = λ j varying most at.
          let h = all.texts j varying most at in
          record { values = h.values; stands = ap (λ o. binding_in o (block.at j).index) (same j _ at) ∙ h.stands; lives = h.lives; value = h.value; short = h.short };
      arrays = λ j type b bs at.
          let h = all.arrays j type b bs at in
          record { values = h.values; numeric = h.numeric; stands = ap (λ o. binding_in o (block.at j).index) (same j _ at.0) ∙ h.stands; lives = h.lives; value = h.value; fits = h.fits };
      text_arrays = λ j varying most b bs at.
          let h = all.text_arrays j varying most b bs at in
          record { values = h.values; stands = ap (λ o. binding_in o (block.at j).index) (same j _ at) ∙ h.stands; lives = h.lives; value = h.value; short = h.short };
      entered = ap (λ ls. head.level ∷ ls) all.entered;
      framed = ap (λ fs. x.frame ∷ fs) all.framed;
      kinds = kinds_above x xs.activations (omega (arith, served, long)) ∙ ap (λ ks. way_of x ∷ ks) all.kinds;
      units = (subst (AreKnown frames.known (length s.activations + 1) x.frame []) (sym none) tt, all.units);
      aside = record { all = (tt, all.aside.all) };
      stored = stored_higher all.stored;
    }

pub entered_all : (head : Y.BlockHead) (body : Y.Stmts) (s : State) (xs : Storage) (x : S.Activation) (parent : ℕ) {frames : Frames} {serials : Serials} {outer : ℕ} {levels : List ℕ} {block : Names} {types : Types} {n : Values} → 0 < head.level → 1 ≤ parent → parent ≤ length s.activations → (head.level ≡ suc (first_level (levels_of s.activations)) → parent ≡ length s.activations) → IsOrdinary 0 x → x.units ≡ [] → Outside head.level outer block types → Nested s.activations xs.activations → AllHold frames serials xs (outer ∷ levels) s block types n → AllHold (atop x.frame (way_of x) frames) serials (record xs { activations = x ∷ xs.activations }) (head.level ∷ outer ∷ levels) (entered_at parent head body s) block types n
entered_all head body s xs x parent level low high direct units none outside nested all =
    raised_all head (M.begun (Y.BlockOf head body) parent) s xs x (lit< tt) level low high direct units none outside nested all

-- ---- the state in which it is left

-- the input is as it was
without_newest_input : (as' : List Activation) (s : State) → (without_newest as' s).input ≡ s.input
without_newest_input [] s = refl
without_newest_input (a ∷ as') s = refl

pub ended_input : (s : State) → (newest_ended s).input ≡ s.input
ended_input s = without_newest_input s.activations s

-- what the services keep once the newest activation has ended
abbrev pub left_storage : Storage → List S.Activation → Storage
left_storage xs rest =
    record xs { activations = rest; living = filter (λ l. nat_le l.owner (length rest)) xs.living }

-- behind it
pub record Left (frames : Frames) (serials : Serials) (s : State) (xs : Storage) (block : Names) (types : Types) (n : Values) (levels : List ℕ) : Type 0 where
  pub newest : S.Activation
  pub rest : List S.Activation
  pub are : xs.activations ≡ newest ∷ rest
  pub some : 0 < length rest
  pub nested : Nested (with_world s.world (newest_ended s)).activations rest
  pub all : AllHold frames serials (left_storage xs rest) levels (with_world s.world (newest_ended s)) block types n

abbrev pub behind_first : List ℕ → List ℕ
behind_first [] = []
behind_first (x ∷ xs) = xs

left_by : (s : State) (as' : List Activation) (xs : Storage) (ys : List S.Activation) {top outer : ℕ} {levels : List ℕ} (from frames : Frames) {serials : Serials} {block : Names} {types : Types} {n : Values} → behind_first from.list ≡ frames.list → behind_kind from.kinds ≡ frames.kinds → behind_aside from.asides ≡ frames.asides → ((us : List Activation) (vs : List S.Activation) → UnitsKnown from.known us vs → UnitsKnown frames.known us vs) → s.activations ≡ as' → xs.activations ≡ ys → Nested as' ys → Outside top outer block types → ((j : ℕ) (kind : Kind) → slice_get types j ≡ Some kind → serials.owner j ≤ suc (length levels)) → AllHold from serials xs (top ∷ outer ∷ levels) s block types n → Left frames serials s xs block types n (outer ∷ levels)
left_by s [] xs ys {top} {outer} {levels} from frames lists kinds asides known same are nested outside owners all =
    let none : [] ≡ top ∷ outer ∷ levels = ap levels_of (sym same) ∙ all.entered in
    absurd (cc none)
left_by s (a ∷ as') xs [] from frames lists kinds asides known same are nested outside owners all = absurd nested
left_by s (a ∷ as') xs (x ∷ ys) {top} {outer = outer} {levels = levels} from frames {serials = serials} {block = block} {types = types} {n = n} lists kinds asides known same are nested outside owners all =
    let entered : levels_of (a ∷ as') ≡ top ∷ outer ∷ levels = ap levels_of (sym same) ∙ all.entered in
    let left' : levels_of as' ≡ outer ∷ levels = ap behind_level entered in
    let long = entered_length as' (outer ∷ levels) left' in
    let long' = same_length as' ys nested.1.1 in
    let top' : top ≡ a.level = sym (newest_of_levels (a ∷ as') top (outer ∷ levels) entered) in
    let inside = seen_inside a as' x ys (length levels) outer block types nested long (newest_of_levels as' outer levels left') (subst (λ l. Outside l outer block types) top' outside) in
    let most : length ys ≡ suc (length levels) = omega (arith, long, long') in
    let high : a.height ≡ suc (suc (length levels)) = (let e = nested.0.height in omega (arith, e, long)) in
    let ended : newest_ended s ≡ without_newest (a ∷ as') s = ap (λ us. without_newest us s) same in
    let lives : (j : ℕ) (kind : Kind) → slice_get types j ≡ Some kind → generation_of (living_of (without_owner a.height s.living) (serials.of j)) ≡ generation_of (living_of s.living (serials.of j)) = λ j kind at. ap (λ m. generation_of (living_of (without_owner m s.living) (serials.of j))) high ∙ lives_left j at (owners j kind at) all.stored in
    let stands : (j : ℕ) (kind : Kind) → slice_get types j ≡ Some kind → ancestor as' (newest_height as') (level_of block j) ≡ ancestor s.activations (newest_height s.activations) (level_of block j) = λ j kind at. sym (inside j kind at) ∙ ap (λ us. ancestor us (newest_height us) (level_of block j)) (sym same) in
    let stored : Stored serials xs.signatures (filter (λ l. nat_le l.owner (length ys)) xs.living) xs.serials (suc (length levels)) (without_owner a.height s.living) s.serials block types =
    subst (λ m. Stored serials xs.signatures (filter (λ l. nat_le l.owner (length ys)) xs.living) xs.serials (suc (length levels)) (without_owner m s.living) s.serials block types) (sym high)
    (subst (λ m. Stored serials xs.signatures (filter (λ l. nat_le l.owner m) xs.living) xs.serials (suc (length levels)) (without_owner (suc (suc (length levels))) s.living) s.serials block types) (sym most) (stored_left (omega arith) owners all.stored)) in
    let T : State → Type 0 = λ s'. Nested (with_world s.world s').activations ys × AllHold frames serials (left_storage xs ys) (outer ∷ levels) (with_world s.world s') block types n in
    let done : T (without_newest (a ∷ as') s) = (
      nested.1.1,
      record {
        numbers = λ j b numeric.
            let h = all.numbers j b numeric in
            record { values = h.values; stands = ap (λ o. binding_in o (block.at j).index) (stands j _ b.1) ∙ h.stands; lives = lives j _ b.1 ∙ h.lives; value = h.value; fits = h.fits };
        texts = λ j varying most' at'.
            let h = all.texts j varying most' at' in
            record { values = h.values; stands = ap (λ o. binding_in o (block.at j).index) (stands j _ at') ∙ h.stands; lives = lives j _ at' ∙ h.lives; value = h.value; short = h.short };
        arrays = λ j type b bs at'.
            let h = all.arrays j type b bs at' in
            record { values = h.values; numeric = h.numeric; stands = ap (λ o. binding_in o (block.at j).index) (stands j _ at'.0) ∙ h.stands; lives = lives j _ at'.0 ∙ h.lives; value = h.value; fits = h.fits };
        text_arrays = λ j varying most' b bs at'.
            let h = all.text_arrays j varying most' b bs at' in
            record { values = h.values; stands = ap (λ o. binding_in o (block.at j).index) (stands j _ at') ∙ h.stands; lives = lives j _ at' ∙ h.lives; value = h.value; short = h.short };
        entered = left';
        framed = ap behind_first (ap frames_of (sym are) ∙ all.framed) ∙ lists;
        kinds = kinds_behind x ys ∙ ap behind_kind (ap kinds_of (sym are) ∙ all.kinds) ∙ kinds;
        units = known as' ys (subst (λ us. UnitsKnown from.known us (x ∷ ys)) same (subst (UnitsKnown from.known s.activations) are all.units)).1;
        aside = subst (λ xss. StandAside xss serials types as' (without_owner a.height s.living) s.serials) asides (asides_left a.height a as' (omega (arith, high, long)) (subst (λ us. StandAside from.asides serials types us s.living s.serials) same all.aside));
        stored = stored;
      },
    ) in
    let o = subst T (sym ended) done in
    record { newest = x; rest = ys; are = are; some = omega (arith, long, long'); nested = o.0; all = o.1 }

-- below the newest of some frames
pub left_below : (s : State) (xs : Storage) {top outer : ℕ} {levels : List ℕ} (from frames : Frames) {serials : Serials} {block : Names} {types : Types} {n : Values} → behind_first from.list ≡ frames.list → behind_kind from.kinds ≡ frames.kinds → behind_aside from.asides ≡ frames.asides → ((us : List Activation) (vs : List S.Activation) → UnitsKnown from.known us vs → UnitsKnown frames.known us vs) → Nested s.activations xs.activations → Outside top outer block types → ((j : ℕ) (kind : Kind) → slice_get types j ≡ Some kind → serials.owner j ≤ suc (length levels)) → AllHold from serials xs (top ∷ outer ∷ levels) s block types n → Left frames serials s xs block types n (outer ∷ levels)
left_below s xs from frames lists kinds asides known nested outside owners all =
    left_by s s.activations xs xs.activations from frames lists kinds asides known refl refl nested outside owners all

pub left_all : (s : State) (xs : Storage) {top outer : ℕ} {levels : List ℕ} {at : ℕ} {kind : Way} {frames : Frames} {serials : Serials} {block : Names} {types : Types} {n : Values} → Nested s.activations xs.activations → Outside top outer block types → ((j : ℕ) (kind' : Kind) → slice_get types j ≡ Some kind' → serials.owner j ≤ suc (length levels)) → AllHold (atop at kind frames) serials xs (top ∷ outer ∷ levels) s block types n → Left frames serials s xs block types n (outer ∷ levels)
left_all s xs {at = at} {kind = kind} {frames = frames} nested outside owners all =
    left_below s xs (atop at kind frames) frames refl refl refl (λ us vs o. o) nested outside owners all

-- how the newest block was entered
pub newest_kind : {s : State} {xs : Storage} {levels : List ℕ} {at : ℕ} {kind : Way} {frames : Frames} {serials : Serials} {block : Names} {types : Types} {n : Values} (x : S.Activation) (rest : List S.Activation) → xs.activations ≡ x ∷ rest → 0 < length rest → AllHold (atop at kind frames) serials xs levels s block types n → way_of x ≡ kind
newest_kind x rest are some all =
    ap first_kind (sym (kinds_above x rest some) ∙ ap kinds_of (sym are) ∙ all.kinds)
