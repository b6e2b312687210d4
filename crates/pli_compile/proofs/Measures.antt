-- A tree weighs at most as many as the tokens that spell it, and its lines are those of its tokens.
use Rattle.std.proofs.Common.{ℕ, ◌+◌, ◌^◌, ◌<◌, ◌≤◌, List, [], length, Option, Some, None, subst, sym, arith}
use Rattle.std.specs.Prelude.{◌==◌, take as taken}
use Rattle.std.proofs.lemmas.List.{length-take}
use Rattle.std.proofs.lemmas.List.Sums.{count_by-le-length}
use Rattle.pli_language.specs.declared.token.Token.{Token}
use Rattle.pli_language.specs.Tokens.{Tokens, Reads, no_more, one_more, line_after, most_bytes}
use Rattle.pli_language.specs.Tree as T
use Rattle.pli_language.specs.Nesting as N
use Rattle.pli_language.specs.Parsing as P
use Rattle.pli_headline.specs.FirstPath.{weight, SmallLines}
use Rattle.pli_compile.proofs.Eating.{Small, Eats, both, least}
use Rattle.pli_compile.proofs.EatingHeads.{head_weight, head_begins, labels_eat}
use Rattle.pli_compile.proofs.Weighing.{nest_weight, NestLines, weight_of_list, lines_of_list}
use Rattle.pli_compile.proofs.WeighingNests.{KeepsNest, LeadsNest, entered_leads}

-- the tree that is read from here on weighs at most as much as what is open and the tokens
record Holds (n : N.Nest) (ts : List Token) (tree : T.Tree) : Type 0 where
  weighs : weight tree ≤ nest_weight n + length ts
  lines : NestLines n → SmallLines tree.procedures

abbrev HoldsIf : N.Nest → List Token → Option T.Tree → Type 0
HoldsIf n ts None = Unit {0}
HoldsIf n ts (Some tree) = Holds n ts tree

all_holds : (n : N.Nest) → Holds n [] (record { procedures = N.items_of_list n.outer })
all_holds n = let e = weight_of_list n.outer in record { weighs = omega (arith, e); lines = λ k. lines_of_list n.outer k.0 }

-- what holds behind a head holds before it
head_holds : (n behind : N.Nest) (ts rest : List Token) (k : ℕ) (tree : Option T.Tree) → Eats ts rest k → KeepsNest n behind k → HoldsIf behind rest tree → HoldsIf n ts tree
head_holds n behind ts rest k None eats keeps h = tt
head_holds n behind ts rest k (Some tree) eats keeps h =
    let l = eats.shorter in
    let v = keeps.weighs in
    let w = h.weighs in
    record { weighs = omega (arith, l, v, w); lines = λ m. h.lines (keeps.lines m) }

reads_hold : {s : List ℕ} {n : N.Nest} {ts : List Token} {fs : _} {tree : Option T.Tree} → P.Reads s n ts fs tree → Small ts → HoldsIf n ts tree
reads_hold (P.all_read n closed) small = all_holds n
reads_hold (P.too_early n ts ls labels stays) small = tt
reads_hold (P.head n behind ts mid rest ls h m fs tree labels spelled is others) small =
    let before = labels_eat labels in
    let begins = head_begins spelled in
    let lines = begins.lines (before.small small) in
    let keeps : KeepsNest n behind (head_weight h) = subst (λ o. LeadsNest n o (head_weight h)) is (entered_leads n ls h lines) in
    let eats : Eats ts rest (head_weight h) = least (omega arith) (both before begins.eats) in
    head_holds n behind ts rest (head_weight h) tree eats keeps (reads_hold others (eats.small small))
reads_hold (P.misplaced_head n ts mid rest ls h m t p labels spelled is at) small = tt
reads_hold (P.left_out n ts mid rest ls m t labels left) small = tt
reads_hold (P.no_head n ts mid ls t p labels no_head no_left at) small = tt

pub tree_weighs : {s : List ℕ} {ts : List Token} {tree : T.Tree} → P.Spells s ts tree → Small ts → weight tree ≤ length ts
tree_weighs spelled small = let w = (reads_hold spelled small).weighs in omega (arith, w)

pub lines_small : {s : List ℕ} {ts : List Token} {tree : T.Tree} → P.Spells s ts tree → Small ts → SmallLines tree.procedures
lines_small spelled small = (reads_hold spelled small).lines (tt, tt)

-- ---- the lines of a source

line_small : (s : List ℕ) (n : ℕ) → length s ≤ most_bytes → line_after (taken n s) < 2 ^ 31
line_small s n h =
    let a = count_by-le-length (λ b. b == 10) (taken n s) in
    let b = length-take n s in
    omega (arith, a, b, h)

reads_small : {s : List ℕ} {p q : ℕ} {ts : List Token} → length s ≤ most_bytes → Reads s p ts q → Small ts
reads_small h (no_more p) = tt
reads_small {s = s} h (one_more p q t ts le separated at others) =
    (subst (λ l. l < 2 ^ 31) (sym at.line_is) (line_small s t.start h), reads_small h others)

pub tokens_small : {s : List ℕ} {ts : List Token} → Tokens s ts → Small ts
tokens_small t = reads_small t.bytes t.reads
