-- A list catches jumps to its own labels, and goes on at the statement behind the label; a jump to a label of a list around it goes
-- on there. Each jump makes an act, so the turns that the meaning allows are enough.
use Rattle.std.proofs.Common.{◌≡◌, ℕ, zero, suc, ◌+◌, ◌*◌, ◌<◌, ◌≤◌, List, [], ◌∷◌, ◌++◌, ◌⊎◌, inl, inr, Option, None, Some, Bool, true, false, refl, sym, ap, ◌∙◌, subst, arith, length}
use Rattle.std.specs.Prelude.{cond, ◌||◌, ◌&&◌, ◌==◌}
use Rattle.std.proofs.lemmas.Bool.{eq-eqb, and_from, or_cases}
use Rattle.std.proofs.lemmas.Bool.Decides.{nat_tests}
use Rattle.std.proofs.lemmas.List.Folds.{list_any-append}
use Rattle.rv_meaning.specs.declared.instr.Instr.{Instr}
use Rattle.pli_language.specs.Keywords.{same_bytes}
use Rattle.pli_typing.specs.TypedTree as Y
use Rattle.pli_meaning.specs.StorageState.{State}
use Rattle.pli_meaning.specs.Control.{Label, Jump, Meaning, looked, choose, is_among, list_from, ◌>>=◌}
use Rattle.pli_meaning.specs.Raising.{Around}
use Rattle.pli_meaning.specs.Executing as M
use Rattle.pli_serving.specs.ServiceState.{Services}
use Rattle.pli_coding.specs.Assembly.{LabelPlace, same_symbol, Mark, size_of}
use Rattle.pli_coding.specs.Environments.{Environment}
use Rattle.pli_coding.specs.Statements.{stmt_code, stmts_code, marked}
use Rattle.pli_coding.specs.Linking.{Links, place_of}
use Rattle.pli_headline.specs.ProvedSoFar.{Names, Types}
use Rattle.pli_headline.proofs.Storages.{storage}
use Rattle.run_steps.specs.Engine.{Base, address}
use Rattle.code_marks.proofs.DataOnce.{same_bytes-equal, same_bytes-same}
use Rattle.run_steps.proofs.Linking.{size_append}
use Rattle.run_steps.specs.Items.{Linked, At}
use Rattle.run_steps.specs.Bodies.{Known}
use Rattle.run_steps.proofs.Jumps.{front_of, back_of, rest_of, linked_at}
use Rattle.run_steps.specs.Temporaries.{nothing}
use Rattle.run_steps.proofs.Temporaries.{stays_then}
use Rattle.pli_headline.proofs.Activations.{newest_is, entered_length}
use Rattle.pli_headline.proofs.OuterBlocks.{risen_length}
use Rattle.pli_headline.proofs.Serving.{Serving}
use Rattle.pli_headline.proofs.Statements.{Block, AllHold, Behind, IsMarkedOnce, Landing, outlets_by, Enough, Does, EachDoes, list_does}
use Rattle.pli_headline.proofs.MainFlow.{catching, catching_closed, comes_caught}
use Rattle.run_steps.specs.Reach.{Family, Aims, Comes, Closed}
use Rattle.pli_headline.proofs.Scalars.{Values}

-- the block while a list with these labels is carried out
abbrev pub within : {e : Environment} {block : Names} {types : Types} → List Label → Block e block types → Block e block types
within labels bl =
    record {
      ground = bl.ground;
      words = bl.words;
      taken = bl.taken;
      labels = labels ++ bl.labels;
      base = bl.base;
      within = bl.within;
      words_are = bl.words_are;
      same = bl.same;
      temps = bl.temps;
      alike = bl.alike;
      declared = bl.declared;
      reach = bl.reach;
      named = bl.named;
      lower = bl.lower;
      bases = bl.bases;
      reaches = bl.reaches;
      inside = bl.inside;
      places = bl.places;
      reads = bl.reads;
      writes = bl.writes;
      held = bl.held;
      frames = bl.frames;
      serials = bl.serials;
      bottom = bl.bottom;
      depths = bl.depths;
      shallow = bl.shallow;
      owners = bl.owners;
      first_owner = bl.first_owner;
      stack = bl.stack;
      alone = bl.alone;
      lead = bl.lead;
      leads = bl.leads;
      ends = bl.ends;
      sized = bl.sized;
      own = bl.own;
      levels = bl.levels;
      level_room = bl.level_room;
      outermost_level = bl.outermost_level;
      displays = bl.displays;
      leveled = bl.leveled;
      texts = bl.texts;
      arrays = bl.arrays;
      text_arrays = bl.text_arrays;
      array_names = bl.array_names;
      outer = bl.outer;
      enclosing = bl.enclosing;
      seen = bl.seen;
    }

-- ---- where a label stands

label_by : (links : Links) (i block : ℕ) (l label : Label) (ls : List Label) → (same_symbol (LabelPlace block l) (LabelPlace block l) ≡ true → IsMarkedOnce links block l → place_of links (LabelPlace block l) ≡ 4 * i) → (is_among label ls ≡ true → IsMarkedOnce links block label → place_of links (LabelPlace block label) ≡ 4 * i) → (same_bytes label l ≡ true) ⊎ (is_among label ls ≡ true) → IsMarkedOnce links block label → place_of links (LabelPlace block label) ≡ 4 * i
label_by links i block l label ls here rest (inl e) =
    let same : label ≡ l = same_bytes-equal label l e in
    subst (λ u. IsMarkedOnce links block u → place_of links (LabelPlace block u) ≡ 4 * i) (sym same)
    (here (and_from (block == block) (same_bytes l l) (eq-eqb block block refl) (same_bytes-same l)))
label_by links i block l label ls here rest (inr e) = rest e

-- the marks of a list of labels
label_marked : {links : Links} {code : List Instr} {i : ℕ} (block : ℕ) (labels : List Label) (label : Label) → is_among label labels ≡ true → Linked links code i (marked block labels) → IsMarkedOnce links block label → place_of links (LabelPlace block label) ≡ 4 * i
label_marked block [] label among l = absurd (cc among)
label_marked {links} {i = i} block (x ∷ xs) label among l =
    let there : i + 0 ≡ i = omega arith in
    label_by links i block x label xs l.has.0
    (λ e. label_marked block xs label e (linked_at i (marked block xs) there (rest_of (Mark (LabelPlace block x)) (marked block xs) l)))
    (or_cases (same_bytes label x) (is_among label xs) among)

-- from a label on, a list means what its statements from there on mean
record Resumed {e : Environment} {block : Names} {types : Types} (bl : Block e block types) (links : Links) (code : List Instr) (around : Around) (body : Y.Stmts) (label : Label) (i : ℕ) : Type 1 where
  at : ℕ
  later : i ≤ at
  rest : Y.Stmts
  place : IsMarkedOnce links e.block label → place_of links (LabelPlace e.block label) ≡ 4 * at
  linked : Linked links code at (stmts_code e bl.taken rest)
  ends : at + size_of (stmts_code e bl.taken rest) ≡ i + size_of (stmts_code e bl.taken body)
  each : EachDoes bl links code around rest
  means : (k : ℕ) (s : State) → M.statements around body (Some label) k s ≡ M.statements around rest None k s

resumed_by : {e : Environment} {block : Names} {types : Types} (bl : Block e block types) {links : Links} {code : List Instr} {i : ℕ} (around : Around) (labels : List Label) (first : Y.Stmt) (rest : Y.Stmts) (label : Label) (q : Bool) → is_among label labels ≡ q → is_among label (labels ++ M.labels_in rest) ≡ true → EachDoes bl links code around (Y.StmtThen labels first rest) → Linked links code i (stmts_code e bl.taken (Y.StmtThen labels first rest)) → ((j : ℕ) → is_among label (M.labels_in rest) ≡ true → Linked links code j (stmts_code e bl.taken rest) → Resumed bl links code around rest label j) → Resumed bl links code around (Y.StmtThen labels first rest) label i
unfolding M.statements choose
resumed_by {e} bl {i = i} around labels first rest label true own among each l later =
    let c = stmt_code e bl.taken first ++ stmts_code e bl.taken rest in
    record {
      at = i;
      later = omega arith;
      rest = Y.StmtThen labels first rest;
      place = label_marked e.block labels label own (front_of (marked e.block labels) c l);
      linked = l;
      ends = refl;
      each = each;
      means = λ k s. ap (λ q. choose q (M.statements around (Y.StmtThen labels first rest) None) (M.statements around rest (Some label)) k s) own;
    }
resumed_by {e} bl {i = i} around labels first rest label false own among each l later =
    let a = marked e.block labels in
    let c = stmt_code e bl.taken first in
    let d = stmts_code e bl.taken rest in
    let behind : is_among label (M.labels_in rest) ≡ true =
    sym (ap (λ q. q || is_among label (M.labels_in rest)) own) ∙ sym (list_any-append (same_bytes label) labels (M.labels_in rest)) ∙ among in
    let o = later (i + size_of a + size_of c) behind (back_of c d (back_of a (c ++ d) l)) in
    let s1 = size_append a (c ++ d) in
    let s2 = size_append c d in
    let o1 = o.later in
    let o2 = o.ends in
    record {
      at = o.at;
      later = omega (arith, o1);
      rest = o.rest;
      place = o.place;
      linked = o.linked;
      ends = omega (arith, o2, s1, s2);
      each = o.each;
      means = λ k s. ap (λ q. choose q (M.statements around (Y.StmtThen labels first rest) None) (M.statements around rest (Some label)) k s) own ∙ o.means k s;
    }

ended_means : (around : Around) (labels : List Label) (label : Label) (k : ℕ) (s : State) → M.statements around (Y.EndOfList labels) (Some label) k s ≡ M.statements around (Y.EndOfList labels) None k s
unfolding M.statements
ended_means around labels label k s = refl

resumed_at_end : {e : Environment} {block : Names} {types : Types} (bl : Block e block types) {links : Links} {code : List Instr} {i : ℕ} (around : Around) (labels : List Label) (label : Label) → is_among label labels ≡ true → Linked links code i (marked e.block labels) → Resumed bl links code around (Y.EndOfList labels) label i
resumed_at_end {e} bl {i = i} around labels label among l =
    record {
      at = i;
      later = omega arith;
      rest = Y.EndOfList labels;
      place = label_marked e.block labels label among l;
      linked = l;
      ends = refl;
      each = tt;
      means = λ k s. ended_means around labels label k s;
    }

resumed : {e : Environment} {block : Names} {types : Types} (bl : Block e block types) {links : Links} {code : List Instr} {i : ℕ} (around : Around) (body : Y.Stmts) (label : Label) → is_among label (M.labels_in body) ≡ true → EachDoes bl links code around body → Linked links code i (stmts_code e bl.taken body) → Resumed bl links code around body label i
resumed bl around (Y.EndOfList labels) label among each l = resumed_at_end bl around labels label among l
resumed bl around (Y.StmtThen labels first rest) label among each l =
    resumed_by bl around labels first rest label (is_among label labels) refl among each l
    (λ j later l'. resumed bl {i = j} around rest label later each.1 l')

-- ---- the turns

-- a jump is caught, or goes on outside
landing_by : {e : Environment} {block : Names} {types : Types} (bl : Block e block types) {links : Links} {code : List Instr} {k : ℕ} {h t : ℕ → ℕ} {acts : ℕ} {aims : Aims (Unit {0})} (labels : List Label) (next : Label → Meaning (Unit {0})) (label : Label) (q : Bool) → is_among label labels ≡ q → (q ≡ true → Landing bl links k h t acts (λ i f v height l s. Comes code i f v aims (next l k s)) label) → (q ≡ false → Landing bl links k h t acts aims.jumped label) → Landing bl links k h t acts (catching code k (suc (length bl.depths)) labels next aims).jumped label
landing_by {e} bl {code = code} {k = k} {aims = aims} labels next label true among own outer =
    let o = own refl in
    let here : ((suc (length bl.depths) == suc (length bl.depths)) && is_among label labels) ≡ true = ap (λ u. u && is_among label labels) (eq-eqb (suc (length bl.depths)) (suc (length bl.depths)) refl) ∙ among in
    record {
      at = o.at;
      place = o.place;
      near = o.near;
      later = o.later;
      lands = λ s v line n h t f serving all stays acted' at'.
          subst (λ q. Comes code o.at f v aims (cond q (next label k s) (Jump (suc (length bl.depths)) label s))) (sym here) (o.lands s v line n h t f serving all stays acted' at');
    }
landing_by {e} bl {code = code} {k = k} {aims = aims} labels next label false among own outer =
    let o = outer refl in
    let here : ((suc (length bl.depths) == suc (length bl.depths)) && is_among label labels) ≡ false = ap (λ u. u && is_among label labels) (eq-eqb (suc (length bl.depths)) (suc (length bl.depths)) refl) ∙ among in
    record {
      at = o.at;
      place = o.place;
      near = o.near;
      later = o.later;
      lands = λ s v line n h t f serving all stays acted' at'.
          subst (λ q. Comes code o.at f v aims (cond q (next label k s) (Jump (suc (length bl.depths)) label s)))
          (sym here) (record { to = λ early. o.lands s v line n h t f serving all stays acted' at' });
    }

-- a list from its start, or from a label on
catch_piece : {e : Environment} {block : Names} {types : Types} (bl : Block e block types) {links : Links} {code : List Instr} (around : Around) (body : Y.Stmts) → EachDoes (within (M.labels_in body) bl) links code around body → (start : ℕ) → 10 ≤ start → Linked links code start (stmts_code e bl.taken body) → (turns : ℕ) {i : ℕ} {s : State} {v : Services} {h t : ℕ → ℕ} {aims : Aims (Unit {0})} (from : Option Label) (rest : Y.Stmts) (closed : Closed code aims) (line : ℕ) (n : Values) (f : Family) (k : ℕ) → k < turns + v.world.acts → ((k' : ℕ) (s' : State) → M.statements around body from k' s' ≡ M.statements around rest None k' s') → EachDoes (within (M.labels_in body) bl) links code around rest → Linked links code i (stmts_code e bl.taken rest) → i + size_of (stmts_code e bl.taken rest) ≡ start + size_of (stmts_code e bl.taken body) → Serving k s v line → AllHold bl.frames bl.serials (storage v) (e.level ∷ bl.depths) s block types n → ((b : Base) → At b i (Known (bl.ground n) v h t nothing b) (f b)) → Behind bl k h t (start + size_of (stmts_code e bl.taken body)) aims → Enough bl links k around.turns i h t v.world.acts aims.jumped aims.returned → Comes code i f v aims (list_from turns (suc (length bl.depths)) (M.labels_in body) (M.statements around body) from k s)
unfolding list_from
catch_piece bl around body every start behind whole zero from rest closed line n f k enough means each l ends serving all at goal more =
    absurd (let a = serving.allowed in omega (arith, a, enough))
catch_piece {e} {block} {types} bl {links} {code} around body every start behind whole (suc turns) {i} {s} {v} {h} {t} {aims} from rest closed line n f k enough means each l ends serving all at goal more =
    let labels = M.labels_in body in
    let inner = within labels bl in
    let next' : Label → Meaning (Unit {0}) = λ label. list_from turns (suc (length bl.depths)) labels (M.statements around body) (Some label) in
    comes_caught k (suc (length bl.depths)) labels next' (M.statements around body from k s)
    (subst (Comes code i f v (catching code k (suc (length bl.depths)) labels next' aims)) (sym (means k s))
    ((list_does inner links code around rest each).does (catching_closed k (suc (length bl.depths)) labels next' closed) line n f k l serving all at
    (λ s2 v2 line2 n2 h2 t2 f2 serving2 all2 stays2 at2.
    subst (λ u. aims.done u f2 v2 tt s2) (sym ends)
    (goal s2 v2 line2 n2 h2 t2 f2 serving2 all2 stays2 (λ b. record { pc = (at2 b).pc ∙ ap (address b) ends; holds = (at2 b).holds })))
    (record {
      enough = more.enough;
      later = more.later;
      jumps = λ label among once.
          landing_by inner labels next' label (is_among label labels) refl
          (λ own.
          let o = resumed inner around body label own every whole in
          let o1 = o.later in
          let o2 = o.linked.inside in
          let o3 = o.linked.small' in
          record {
            at = o.at;
            place = o.place once;
            near = omega (arith, o2, o3);
            later = omega (arith, o1, behind);
            lands = λ s2 v2 line2 n2 h2 t2 f2 serving2 all2 stays2 grown at2.
                catch_piece bl around body every start behind whole turns (Some label) o.rest closed line2 n2 f2 k (omega (arith, enough, grown)) o.means o.each o.linked o.ends serving2 all2 at2
                (λ s3 v3 line3 n3 h3 t3 f3 serving3 all3 stays3 at3. goal s3 v3 line3 n3 h3 t3 f3 serving3 all3 (stays_then stays2 stays3) at3)
                (record {
                  enough = let u = more.enough in omega (arith, u, grown);
                  later = omega (arith, o1, behind);
                  jumps = λ label3 among3 once3.
                      let p = more.jumps label3 among3 once3 in
                      record {
                        at = p.at;
                        place = p.place;
                        near = p.near;
                        later = p.later;
                        lands = λ s3 v3 line3 n3 h3 t3 f3 serving3 all3 stays3 acted3 at3. p.lands s3 v3 line3 n3 h3 t3 f3 serving3 all3 (stays_then stays2 stays3) (omega (arith, grown, acted3)) at3;
                      };
                  outs = outlets_by e bl.ground bl.levels bl.frames (e.level ∷ bl.depths) bl.outer bl.enclosing links k v.world.acts v2.world.acts aims.jumped aims.jumped
                      (λ o3 c3 label3 p. record {
                        at = p.at;
                        place = p.place;
                        near = p.near;
                        later = p.later;
                        lands = λ s3 v3 line3 n3 h3 f3 serving3 all3 acted3 at3. p.lands s3 v3 line3 n3 h3 f3 serving3 all3 (omega (arith, grown, acted3)) at3;
                      })
                      more.outs;
                  returns = more.returns;
                  own = more.own;
                  homes = more.homes;
                });
          })
          (λ none.
          let o = more.jumps label (sym (ap (λ q. q || is_among label bl.labels) none) ∙ sym (list_any-append (same_bytes label) labels bl.labels) ∙ among) once in
          record { at = o.at; place = o.place; near = o.near; later = o.later; lands = o.lands });
      outs = outlets_by e bl.ground bl.levels bl.frames (e.level ∷ bl.depths) bl.outer bl.enclosing links k v.world.acts v.world.acts aims.jumped (catching code k (suc (length bl.depths)) labels next' aims).jumped
          (λ outer c label o.
          let long = risen_length (suc c.count) c.frame outer.level bl.frames.list (e.level ∷ bl.depths) c.behind c.depths c.rises in
          let other : (suc (length c.depths) == suc (length bl.depths)) ≡ false = grind (arith, nat_tests) in
          let past : ((suc (length c.depths) == suc (length bl.depths)) && is_among label labels) ≡ false = ap (λ q. q && is_among label labels) other in
          record {
            at = o.at;
            place = o.place;
            near = o.near;
            later = o.later;
            lands = λ s2 v2 line2 n2 h2 f2 serving2 all2 acted2 at2.
                subst (λ q. Comes code o.at f2 v2 aims (cond q (next' label k s2) (Jump (suc
                (length c.depths)) label s2))) (sym past)
                (record { to = λ early. o.lands s2 v2 line2 n2 h2 f2 serving2 all2 acted2 at2 });
          })
          more.outs;
      returns = more.returns;
      own = more.own;
      homes = more.homes;
    })))

-- a list of statements, of which each does what it means while the list catches
pub listed : {e : Environment} {block : Names} {types : Types} (bl : Block e block types) {links : Links} {code : List Instr} (around : Around) (body : Y.Stmts) → EachDoes (within (M.labels_in body) bl) links code around body → Does bl links code around.turns (stmts_code e bl.taken body) (M.list around body)
unfolding M.list M.list_with looked ◌>>=◌
listed {e} bl {code = code} around body each =
    record {
      does = λ {i} {s} {v} {h} {t} {aims} closed line n f k l serving all at goal more.
          subst (λ height. Comes code i f v aims (list_from around.turns height (M.labels_in body) (M.statements around body) None k s)) (sym (newest_is s.activations v.activations (length bl.depths) serving.nested (entered_length s.activations (e.level ∷ bl.depths) all.entered)))
          (catch_piece bl around body each i more.later l around.turns None body closed line n f k (let u = more.enough in omega (arith, u)) (λ k' s'. refl) each l refl serving all at goal more);
    }
