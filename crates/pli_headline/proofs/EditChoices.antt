-- Which code shows a value: that for an F item, or that for an A item, by what service 35 said.
use Rattle.std.proofs.Common.{◌≡◌, ℕ, ◌+◌, List, [], ◌∷◌, ◌++◌, Bool, true, false, sym, ap, ◌∙◌, subst, arith, lit<}
use Rattle.std.specs.Prelude.{cond, ◌&&◌, ◌==◌}
use Rattle.rv_meaning.specs.declared.instr.Instr.{Instr}
use Rattle.rv_meaning.specs.declared.instr.BranchTest.TheVariants as Test
use Rattle.pli_meaning.specs.StorageState.{State}
use Rattle.pli_meaning.specs.Control.{Flow}
use Rattle.pli_meaning.specs.Streaming.{FormatItem, DataItem, FixedItem, TextItem}
use Rattle.pli_serving.specs.ServiceState.{Services, EditPlace}
use Rattle.pli_serving.specs.Edits as E
use Rattle.pli_coding.specs.Registers.{a0, u1}
use Rattle.pli_coding.specs.Assembly.{JumpAhead, Code, size_of}
use Rattle.pli_coding.specs.Instructions.{small, skip_where, choice}
use Rattle.pli_coding.specs.Environments.{Environment}
use Rattle.pli_coding.specs.Linking.{Links}
use Rattle.pli_headline.specs.ProvedSoFar.{Names, Types}
use Rattle.pli_headline.proofs.Storages.{storage}
use Rattle.run_steps.specs.Engine.{Base, address}
use Rattle.run_steps.proofs.Linking.{size_append}
use Rattle.run_steps.specs.Items.{Linked, At}
use Rattle.run_steps.proofs.Items.{straight}
use Rattle.run_steps.specs.Bodies.{Known}
use Rattle.run_steps.proofs.Bodies.{zero_is}
use Rattle.run_steps.proofs.Jumps.{front_of, back_of, rest_of, skip_taken, skip_passed, ahead_piece}
use Rattle.run_steps.specs.Temporaries.{nothing}
use Rattle.pli_headline.proofs.Serving.{Serving}
use Rattle.pli_headline.proofs.Raising.{small_is}
use Rattle.pli_headline.proofs.Operators.{valued}
use Rattle.pli_headline.proofs.Statements.{Block, AllHold}
use Rattle.pli_headline.proofs.Ifs.{free_far}
use Rattle.pli_headline.proofs.FormatData.{IsOf}
use Rattle.pli_headline.proofs.EditItems.{putting}
use Rattle.run_steps.specs.Reach.{Family, Aims, Comes, Closed, reached}
use Rattle.run_steps.proofs.Reach.{onward, reached_holds}
use Rattle.pli_headline.proofs.Scalars.{Values}

-- behind a value, with what is left of the format list
abbrev pub ValueBehind : {e : Environment} {block : Names} {types : Types} → Block e block types → (k line : ℕ) → (h t : ℕ → ℕ) → (i : ℕ) → Values → (whole left : List FormatItem) → (below : List EditPlace) → Aims (List FormatItem) → Type 0
ValueBehind {e = e} {block = block} {types = types} bl k line h t i n whole left below aims =
    (s : State) (v : Services) (f : Family) → Serving k s v line → AllHold bl.frames bl.serials (storage v) (e.level ∷ bl.depths) s block types n → v.edits ≡ putting whole left ∷ below → ((b : Base) → At b i (Known (bl.ground n) v h t nothing b) (f b)) → aims.done i f v left s

-- by a test where the list has both
abbrev pub choice_code : (fixed text : Code) → Code
choice_code fixed text = small u1 1 ∷ choice Test.Equal a0 u1 fixed text

abbrev pub by_kinds : (p q : Bool) → (fixed text : Code) → Code
by_kinds p q fixed text = cond (p && q) (choice_code fixed text) (cond p fixed text)

abbrev pub chosen_code : DataItem → (fixed text : Code) → Code
chosen_code (FixedItem width) fixed text = fixed
chosen_code (TextItem width) fixed text = text

abbrev tested : (x : ℕ) → Base → List (ℕ × ℕ)
tested x b = (10, x) ∷ (6, 1) ∷ []

same_one : (x y : ℕ) → x ≡ 1 → y ≡ 1 → (x == y) ≡ true
same_one x y e f = ap (λ u. u == y) e ∙ ap (λ u. 1 == u) f

two_one : (x y : ℕ) → x ≡ 2 → y ≡ 1 → (x == y) ≡ false
two_one x y e f = ap (λ u. u == y) e ∙ ap (λ u. 2 == u) f

pub item_chosen : {e : Environment} {block : Names} {types : Types} (bl : Block e block types) {links : Links} {code : List Instr} {i : ℕ} {v : Services} {h t : ℕ → ℕ} {aims : Aims (List FormatItem)} {flow : Flow (List FormatItem)} (p q : Bool) (closed : Closed code aims) (f : Family) (d : DataItem) (fixed text : Code) (n : Values) (whole left : List FormatItem) (below : List EditPlace) (k line : ℕ) → IsOf p q d → Linked links code i (by_kinds p q fixed text) → ((b : Base) → At b i (Known (bl.ground n) v h t (valued (E.data_number d)) b) (f b)) → ((j : ℕ) (f' : Family) → Linked links code j (chosen_code d fixed text) → ((b : Base) → At b j (Known (bl.ground n) v h t nothing b) (f' b)) → ValueBehind bl k line h t (j + size_of (chosen_code d fixed text)) n whole left below aims → Comes code j f' v aims flow) → ValueBehind bl k line h t (i + size_of (by_kinds p q fixed text)) n whole left below aims → Comes code i f v aims flow
item_chosen bl {i = i} true false closed f (FixedItem width) fixed text n whole left below k line is l at next' goal =
    next' i f l (λ b. record { pc = (at b).pc; holds = record { body = (at b).holds.body; regs = tt } }) goal
item_chosen bl {i = i} false true closed f (TextItem width) fixed text n whole left below k line is l at next' goal =
    next' i f l (λ b. record { pc = (at b).pc; holds = record { body = (at b).holds.body; regs = tt } }) goal
item_chosen bl {code = code} {i = i} {v = v} {h = h} {t = t} {aims = aims} true true closed f (FixedItem width) fixed text n whole left below k line is l at next' goal =
    let other = text ++ JumpAhead (size_of fixed) ∷ [] in
    let skip = skip_where Test.Equal a0 u1 other in
    let front = small u1 1 ∷ [] in
    let e1 = size_append skip fixed in
    let l1 = back_of front (skip ++ fixed) l in
    let r = straight i f v v (λ b. Known (bl.ground n) v h t (tested 1) b) (front_of front (skip ++ fixed) l) (omega arith) (λ b. (at b).pc)
    (λ b. let o = (at b).holds in record {
      body = record { services = o.body.services; registers = o.body.registers; bytes = o.body.bytes; memory = o.body.memory };
      regs = (o.regs.0, (small_is _ 1 (zero_is o.body) (lit< tt), tt));
    }) in
    onward closed r (λ f1 at1.
    let j = i + 1 + (1 + size_of other) in
    let place : j + size_of fixed ≡ i + size_of (choice_code fixed text) = omega (arith, e1) in
    onward closed (skip_taken (i + 1) f1 Test.Equal a0 u1 other (front_of skip fixed l1) at1 (λ b. same_one _ _ (at1 b).holds.regs.0 (at1 b).holds.regs.1.0))
    (λ f2 at2.
    next' j f2 (back_of skip fixed l1) (λ b. record { pc = (at2 b).pc; holds = record { body = (at2 b).holds.body; regs = tt } })
    (λ s3 v3 f3 serving3 all3 edits3 at3.
    subst (λ u. aims.done u f3 v3 left s3) (sym place)
    (goal s3 v3 f3 serving3 all3 edits3 (λ b. record { pc = (at3 b).pc ∙ ap (address b) place; holds = (at3 b).holds })))))
item_chosen bl {code = code} {i = i} {v = v} {h = h} {t = t} {aims = aims} true true closed f (TextItem width) fixed text n whole left below k line is l at next' goal =
    let over = JumpAhead (size_of fixed) ∷ [] in
    let other = text ++ over in
    let skip = skip_where Test.Equal a0 u1 other in
    let front = small u1 1 ∷ [] in
    let e1 = size_append skip fixed in
    let e2 = size_append text over in
    let l1 = back_of front (skip ++ fixed) l in
    let l2 = rest_of _ other (front_of skip fixed l1) in
    let r = straight i f v v (λ b. Known (bl.ground n) v h t (tested 2) b) (front_of front (skip ++ fixed) l) (omega arith) (λ b. (at b).pc)
    (λ b. let o = (at b).holds in record {
      body = record { services = o.body.services; registers = o.body.registers; bytes = o.body.bytes; memory = o.body.memory };
      regs = (o.regs.0, (small_is _ 1 (zero_is o.body) (lit< tt), tt));
    }) in
    onward closed r (λ f1 at1.
    let j = i + 1 + 1 in
    let place : j + size_of text + (2 + size_of fixed) ≡ i + size_of (choice_code fixed text) = omega (arith, e1, e2) in
    let inside = l.inside in
    onward closed (skip_passed (i + 1) f1 Test.Equal a0 u1 other (front_of skip fixed l1) at1 (λ b. two_one _ _ (at1 b).holds.regs.0 (at1 b).holds.regs.1.0))
    (λ f2 at2.
    next' j f2 (front_of text over l2) (λ b. record { pc = (at2 b).pc; holds = record { body = (at2 b).holds.body; regs = tt } })
    (λ s3 v3 f3 serving3 all3 edits3 at3.
    let r3 = ahead_piece (j + size_of text) f3 (size_of fixed) (omega (arith, inside, place)) free_far (back_of text over l2) at3 in
    closed.done r3 left s3
    (subst (λ u. aims.done u (reached r3) v3 left s3) (sym place)
    (goal s3 v3 (reached r3) serving3 all3 edits3 (λ b. record { pc = (reached_holds r3 b).pc ∙ ap (address b) place; holds = (reached_holds r3 b).holds }))))))
item_chosen bl false q closed f (FixedItem width) fixed text n whole left below k line is l at next' goal = absurd (cc is)
item_chosen bl p false closed f (TextItem width) fixed text n whole left below k line is l at next' goal = absurd (cc is)
