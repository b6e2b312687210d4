-- The code for a data item that is next: by F or by A, where a list has both as a0 tells.
use Rattle.std.proofs.Common.{◌≡◌, ℕ, ◌+◌, ◌≤◌, List, [], ◌∷◌, ◌++◌, Bool, true, false, refl, ap, ◌∙◌, subst, arith}
use Rattle.std.specs.Prelude.{cond, ◌&&◌, ◌==◌, length}
use Rattle.rv_meaning.specs.declared.instr.BranchTest.TheVariants as Test
use Rattle.rv_meaning.specs.declared.instr.Instr.{Instr}
use Rattle.pli_meaning.specs.Control.{Flow}
use Rattle.pli_meaning.specs.Streaming.{DataItem, FixedItem, FormatItem, TextItem}
use Rattle.pli_serving.specs.Edits as E
use Rattle.pli_serving.specs.ServiceState.{Services}
use Rattle.pli_coding.specs.Assembly.{Code, JumpAhead, size_of}
use Rattle.pli_coding.specs.Instructions.{choice, skip_where, small}
use Rattle.pli_coding.specs.Registers.{a0, u1}
use Rattle.pli_coding.specs.Streams.{by_item, has_fixed, has_text}
use Rattle.activation_relation.specs.Layers.{Point, services_of}
use Rattle.activation_relation.specs.Points.{Surroundings}
use Rattle.run_steps.specs.Bodies.{Known}
use Rattle.run_steps.proofs.Bodies.{zero_is}
use Rattle.run_steps.specs.Engine.{Base, address}
use Rattle.run_steps.specs.Items.{At, Linked}
use Rattle.run_steps.proofs.Items.{straight}
use Rattle.run_steps.proofs.Jumps.{ahead_piece, back_of, front_of, linked_at, rest_of, skip_passed, skip_taken}
use Rattle.run_steps.proofs.Linking.{size_append}
use Rattle.run_steps.specs.Reach.{Comes, Family, Reach, reached}
use Rattle.run_steps.proofs.Reach.{onward, reach_map, reach_then, reached_holds}
use Rattle.run_steps.specs.Temporaries.{nothing}
use Rattle.image_runs.specs.Runs.{Whole}
use Rattle.block_runs.specs.Machines.{IsIn}
use Rattle.block_runs.proofs.BlockEntries.{small_is}
use Rattle.block_runs.proofs.CallStatements.{comes_map}
use Rattle.block_runs.proofs.PointGrounds.{in_known, known_in, point_frame, point_ground}
use Rattle.expression_runs.proofs.Words.{frame_of, valued}
use Rattle.edit_runs.specs.Edits.{IsItem, kinds_of}
use Rattle.edit_runs.proofs.Items.{Puts, left_aims, left_closed}

abbrev pub branch_of : DataItem → (fixed text : Code) → Code
branch_of (FixedItem width) fixed text = fixed
branch_of (TextItem width) fixed text = text

abbrev both_code : (fixed text : Code) → Code
both_code fixed text = small u1 1 ∷ choice Test.Equal a0 u1 fixed text

-- where an item is next, and a0 tells which
pub record Choice : Type 0 where
  pub fixed : Code
  pub text : Code
  pub item : DataItem
  pub point : Point
  pub numbers : ℕ → ℕ
  pub credits : ℕ
  pub index : ℕ
  pub family : Family

abbrev pub choice_code : Puts → Choice → Code
choice_code u x = by_item u.formats x.fixed x.text

abbrev Stands : (u : Puts) (p : Point) → (ℕ → ℕ) → frame_of u.block p → (index : ℕ) → (Base → List (ℕ × ℕ)) →
    Family → Type 0
Stands u p numbers h index rs f =
    (b : Base) →
    At b index (Known (point_ground u.block.call.surroundings p h) (services_of p) numbers (λ j. 0) rs b) (f b)

pub record IsChoice (u : Puts) (x : Choice) (h : frame_of u.block x.point) : Type 0 where
  pub fits : IsItem (kinds_of u.formats) x.item
  pub linked : Linked u.block.call.surroundings.links u.block.call.code x.index (choice_code u x)
  pub there : Stands u x.point x.numbers h x.index (valued (E.data_number x.item)) x.family

-- the code of the item comes to what is meant, wherever it stands and with whatever credits there are then
abbrev pub BranchComes : (u : Puts) (x : Choice) → frame_of u.block x.point → (acts' : ℕ) → Flow (List FormatItem) →
    Type 0
BranchComes u x h acts' flow =
    (index credits end wanted : ℕ) (g : Family) →
    Linked u.block.call.surroundings.links u.block.call.code index (branch_of x.item x.fixed x.text) →
    index + size_of (branch_of x.item x.fixed x.text) ≡ end →
    credits + size_of (branch_of x.item x.fixed x.text) ≤ x.credits + size_of (choice_code u x) →
    Stands u x.point x.numbers h index nothing g →
    Comes u.block.call.code credits g (services_of x.point) (left_aims u acts' end wanted) flow

-- with more credits than it wants
reach_more :
    {code : List Instr} {c : ℕ} {f : Family} {v : Services} {c' : ℕ} {v' : Services} {Q : Base → Whole → Type 0}
    (c'' : ℕ) → Reach code c f v c' v' Q → c' ≤ c'' → Reach code c f v c'' v' Q
reach_more c'' r less =
    let paid = r.paid in
    record { count = r.count; paid = omega (arith, paid, less); grows = r.grows; goes = r.goes }

-- the code by A is followed by a jump over that by F
jumped_over :
    (u : Puts) (acts' words i j wanted : ℕ) → Linked u.block.call.surroundings.links u.block.call.code i
    (JumpAhead words ∷ []) → i + (2 + words) ≤ length u.block.call.code → i + (2 + words) ≡ j → 2 + words ≤ wanted →
    {c : ℕ} {f : Family} {v : Services} (flow : Flow (List FormatItem)) →
    Comes u.block.call.code c f v (left_aims u acts' i 0) flow →
    Comes u.block.call.code c f v (left_aims u acts' j wanted) flow
jumped_over u acts' words i j wanted l inside end enough flow comes =
    comes_map (left_aims u acts' i 0) (left_aims u acts' j wanted) refl flow
    (λ c f v left s o.
    let h = point_frame o.among.stands o.among.image in
    record {
      point = o.point;
      numbers = o.numbers;
      among = o.among;
      since = o.since;
      line = o.line;
      state = o.state;
      are = o.are;
      reach = reach_more wanted
          (reach_map (λ b y. IsIn u.block.call.surroundings o.point o.numbers j b y)
          (reach_then o.reach
          (ahead_piece {t = λ n. 0} {rs = nothing} 0 (reached o.reach) words inside
          (record { reserved_stay = λ y t. refl; known_stay = λ b y t q. q; set = λ y t. refl }) l
          (λ b. known_in h (reached_holds o.reach b) tt)))
          (λ b y is.
          in_known h o.among.image.parts (record { pc = is.pc ∙ ap (address b) end; holds = is.holds })))
          (omega (arith, enough));
    })
    (λ c f v height label s q. q) (λ c f v r s q. absurd q) comes

-- what a0 tells is compared with 1
told_one : (x y : ℕ) → x ≡ 1 → y ≡ 1 → (x == y) ≡ true
told_one x y e e' = ap (λ n. n == y) e ∙ ap (λ n. 1 == n) e'

told_two : (x y : ℕ) → x ≡ 2 → y ≡ 1 → (x == y) ≡ false
told_two x y e e' = ap (λ n. n == y) e ∙ ap (λ n. 2 == n) e'

one_loaded :
    (u : Puts) (x : Choice) (h : frame_of u.block x.point) (given : ℕ) →
    Linked u.block.call.surroundings.links u.block.call.code x.index (both_code x.fixed x.text) →
    Stands u x.point x.numbers h x.index (valued given) x.family →
    Reach u.block.call.code x.credits x.family (services_of x.point) (x.credits + 1) (services_of x.point)
    (λ b y. At b (x.index + 1) (Known (point_ground u.block.call.surroundings x.point h) (services_of x.point) x.numbers
    (λ j. 0) (λ b'. (10, given) ∷ (6, 1) ∷ []) b) y)
one_loaded u x h given l at =
    let first = small u1 1 ∷ [] in
    straight x.credits x.family (services_of x.point) (services_of x.point)
    (λ b. Known (point_ground u.block.call.surroundings x.point h) (services_of x.point) x.numbers (λ j. 0)
    (λ b'. (10, given) ∷ (6, 1) ∷ []) b) (front_of first (choice Test.Equal a0 u1 x.fixed x.text) l) (omega arith)
    (λ b. (at b).pc)
    (λ b. let o = (at b).holds in record {
      body = record {
        services = o.body.services;
        registers = o.body.registers;
        bytes = o.body.bytes;
        memory = o.body.memory;
      };
      regs = (o.regs.0, (small_is _ 1 (zero_is o.body) (omega arith), tt));
    })

-- by F, behind the code by A
fixed_of_both :
    (u : Puts) (x : Choice) (h : frame_of u.block x.point) (acts' j wanted : ℕ) (flow : Flow (List FormatItem)) →
    Linked u.block.call.surroundings.links u.block.call.code x.index (both_code x.fixed x.text) →
    Stands u x.point x.numbers h x.index (valued 1) x.family → x.index + size_of (both_code x.fixed x.text) ≡ j →
    ((index credits : ℕ) (g : Family) → Linked u.block.call.surroundings.links u.block.call.code index x.fixed →
    index + size_of x.fixed ≡ j → credits + size_of x.fixed ≤ x.credits + size_of (both_code x.fixed x.text) →
    Stands u x.point x.numbers h index nothing g →
    Comes u.block.call.code credits g (services_of x.point) (left_aims u acts' j wanted) flow) →
    Comes u.block.call.code x.credits x.family (services_of x.point) (left_aims u acts' j wanted) flow
fixed_of_both u x h acts' j wanted flow l at end branch =
    let closed = left_closed u acts' j wanted in
    let first = small u1 1 ∷ [] in
    let over = x.text ++ JumpAhead (size_of x.fixed) ∷ [] in
    let skip = skip_where Test.Equal a0 u1 over in
    let n1 = size_append x.text (JumpAhead (size_of x.fixed) ∷ []) in
    let n2 = size_append skip x.fixed in
    let l1 = back_of first (skip ++ x.fixed) l in
    let at2 = x.index + 1 + (1 + size_of over) in
    onward closed (one_loaded u x h 1 l at)
    (λ g at1.
    onward closed
    (skip_taken (x.credits + 1) g Test.Equal a0 u1 over (front_of skip x.fixed l1) at1
    (λ b. told_one _ _ (at1 b).holds.regs.0 (at1 b).holds.regs.1.0))
    (λ g2 there.
    branch at2 (x.credits + 1 + (1 + size_of over)) g2 (linked_at at2 x.fixed (omega arith) (back_of skip x.fixed l1))
    (omega (arith, end, n1, n2)) (omega (arith, n1, n2))
    (λ b. record { pc = (there b).pc; holds = record { body = (there b).holds.body; regs = tt } })))

-- by A, before a jump
text_of_both :
    (u : Puts) (x : Choice) (h : frame_of u.block x.point) (acts' j wanted : ℕ) (flow : Flow (List FormatItem)) →
    Linked u.block.call.surroundings.links u.block.call.code x.index (both_code x.fixed x.text) →
    Stands u x.point x.numbers h x.index (valued 2) x.family → x.index + size_of (both_code x.fixed x.text) ≡ j →
    size_of (both_code x.fixed x.text) ≤ wanted →
    ((index credits end : ℕ) (g : Family) → Linked u.block.call.surroundings.links u.block.call.code index x.text →
    index + size_of x.text ≡ end → credits + size_of x.text ≤ x.credits + size_of (both_code x.fixed x.text) →
    Stands u x.point x.numbers h index nothing g →
    Comes u.block.call.code credits g (services_of x.point) (left_aims u acts' end 0) flow) →
    Comes u.block.call.code x.credits x.family (services_of x.point) (left_aims u acts' j wanted) flow
text_of_both u x h acts' j wanted flow l at end enough branch =
    let closed = left_closed u acts' j wanted in
    let first = small u1 1 ∷ [] in
    let jump = JumpAhead (size_of x.fixed) ∷ [] in
    let over = x.text ++ jump in
    let skip = skip_where Test.Equal a0 u1 over in
    let n1 = size_append x.text jump in
    let n2 = size_append skip x.fixed in
    let l1 = back_of first (skip ++ x.fixed) l in
    let l2 = front_of skip x.fixed l1 in
    let at2 = x.index + 1 + 1 in
    let l3 = linked_at at2 over (omega arith) (rest_of _ over l2) in
    let inside = l.inside in
    onward closed (one_loaded u x h 2 l at)
    (λ g at1.
    onward closed
    (skip_passed (x.credits + 1) g Test.Equal a0 u1 over l2 at1
    (λ b. told_two _ _ (at1 b).holds.regs.0 (at1 b).holds.regs.1.0))
    (λ g2 there.
    jumped_over u acts' (size_of x.fixed) (at2 + size_of x.text) j wanted (back_of x.text jump l3)
    (omega (arith, inside, n1, n2)) (omega (arith, end, n1, n2)) (omega (arith, enough, n1, n2)) flow
    (branch at2 (x.credits + 1 + 1) (at2 + size_of x.text) g2 (front_of x.text jump l3) refl
    (omega (arith, n1, n2))
    (λ b. record { pc = (there b).pc; holds = record { body = (there b).holds.body; regs = tt } }))))

-- it has two words at least if each of the two has
pub chosen_size :
    (u : Puts) (fixed text : Code) → 2 ≤ size_of fixed → 2 ≤ size_of text → 2 ≤ size_of (by_item u.formats fixed text)
chosen_size u fixed text one other = by (has_fixed u.formats) (has_text u.formats)
  where
    by : (q r : Bool) → 2 ≤ size_of (cond (q && r) (both_code fixed text) (cond q fixed text))
    by true true = omega arith
    by true false = one
    by false r = other

abbrev Untold : (u : Puts) (x : Choice) → frame_of u.block x.point → Type 0
Untold u x h = Stands u x.point x.numbers h x.index nothing x.family

untold : (u : Puts) (x : Choice) (h : frame_of u.block x.point) (given : ℕ) →
    Stands u x.point x.numbers h x.index (valued given) x.family → Untold u x h
untold u x h given at b = record { pc = (at b).pc; holds = record { body = (at b).holds.body; regs = tt } }

pub chosen_comes :
    (u : Puts) (x : Choice) (h : frame_of u.block x.point) (acts' j wanted : ℕ) (flow : Flow (List FormatItem)) →
    IsChoice u x h → size_of (choice_code u x) ≤ wanted → x.index + size_of (choice_code u x) ≡ j →
    BranchComes u x h acts' flow →
    Comes u.block.call.code x.credits x.family (services_of x.point) (left_aims u acts' j wanted) flow
chosen_comes u x h acts' j wanted flow is enough end branch =
    by x.item is.fits is.there branch
  where
    w : Surroundings
    w = u.block.call.surroundings

    both : Code
    both = both_code x.fixed x.text

    Goal : Type 0
    Goal = Comes u.block.call.code x.credits x.family (services_of x.point) (left_aims u acts' j wanted) flow

    coded : (q r : Bool) → has_fixed u.formats ≡ q → has_text u.formats ≡ r →
        choice_code u x ≡ cond (q && r) both (cond q x.fixed x.text)
    coded q r e e' =
        ap (λ b. cond (b && has_text u.formats) both (cond b x.fixed x.text)) e
        ∙ ap (λ b. cond (q && b) both (cond q x.fixed x.text)) e'

    fixed_by :
        (r : Bool) → has_text u.formats ≡ r → has_fixed u.formats ≡ true →
        Stands u x.point x.numbers h x.index (valued 1) x.family →
        ((index credits end wanted' : ℕ) (g : Family) → Linked w.links u.block.call.code index x.fixed →
        index + size_of x.fixed ≡ end → credits + size_of x.fixed ≤ x.credits + size_of (choice_code u x) →
        Stands u x.point x.numbers h index nothing g →
        Comes u.block.call.code credits g (services_of x.point) (left_aims u acts' end wanted') flow) → Goal
    fixed_by true e some at go =
        let same = coded true true some e in
        let n = ap (λ c. size_of c) same in
        fixed_of_both u x h acts' j wanted flow (subst (Linked w.links u.block.call.code x.index) same is.linked) at
        (omega (arith, n, end))
        (λ index credits g l end' few there. go index credits j wanted g l end' (omega (arith, few, n)) there)
    fixed_by false e some at go =
        let same = coded true false some e in
        let n = ap (λ c. size_of c) same in
        go x.index x.credits j wanted x.family (subst (Linked w.links u.block.call.code x.index) same is.linked)
        (omega (arith, n, end)) (omega (arith, n)) (untold u x h 1 at)

    text_by :
        (q : Bool) → has_fixed u.formats ≡ q → has_text u.formats ≡ true →
        Stands u x.point x.numbers h x.index (valued 2) x.family →
        ((index credits end wanted' : ℕ) (g : Family) → Linked w.links u.block.call.code index x.text →
        index + size_of x.text ≡ end → credits + size_of x.text ≤ x.credits + size_of (choice_code u x) →
        Stands u x.point x.numbers h index nothing g →
        Comes u.block.call.code credits g (services_of x.point) (left_aims u acts' end wanted') flow) → Goal
    text_by true e some at go =
        let same = coded true true e some in
        let n = ap (λ c. size_of c) same in
        text_of_both u x h acts' j wanted flow (subst (Linked w.links u.block.call.code x.index) same is.linked) at
        (omega (arith, n, end)) (omega (arith, n, enough))
        (λ index credits end' g l e' few there. go index credits end' 0 g l e' (omega (arith, few, n)) there)
    text_by false e some at go =
        let same = coded false true e some in
        let n = ap (λ c. size_of c) same in
        go x.index x.credits j wanted x.family (subst (Linked w.links u.block.call.code x.index) same is.linked)
        (omega (arith, n, end)) (omega (arith, n)) (untold u x h 2 at)

    by :
        (item : DataItem) → IsItem (kinds_of u.formats) item →
        Stands u x.point x.numbers h x.index (valued (E.data_number item)) x.family →
        ((index credits end wanted' : ℕ) (g : Family) →
        Linked w.links u.block.call.code index (branch_of item x.fixed x.text) →
        index + size_of (branch_of item x.fixed x.text) ≡ end →
        credits + size_of (branch_of item x.fixed x.text) ≤ x.credits + size_of (choice_code u x) →
        Stands u x.point x.numbers h index nothing g →
        Comes u.block.call.code credits g (services_of x.point) (left_aims u acts' end wanted') flow) → Goal
    by (FixedItem width) fits at go = fixed_by (has_text u.formats) refl fits at go
    by (TextItem width) fits at go = text_by (has_fixed u.formats) refl fits at go
