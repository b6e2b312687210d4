-- The blocks of a program stand in the order of their numbers, so the block around at a block's own level is itself.
use Rattle.std.proofs.Common.{◌≡◌, ℕ, ◌≤◌, ◌⊎◌, inl, inr, List, [], ◌∷◌, Bool, true, false, refl, sym, ap, ◌∙◌}
use Rattle.std.proofs.Common.{subst, arith, Option, Some}
use Rattle.std.specs.Prelude.{cond, nat_le, nat_lt, ◌==◌, ◌&&◌, ⊤}
use Rattle.std.proofs.lemmas.Bool.{eq-eqb}
use Rattle.std.proofs.lemmas.Bool.Decides.{nat_tests}
use Rattle.std.proofs.lemmas.Option.{same_Some}
use Rattle.pli_typing.specs.TypedTree as Y
use Rattle.pli_meaning.specs.DeclaredShapes.{head_of, procedure_numbered}
use Rattle.pli_coding.specs.Environments.{BlockPlace, block_around, last_of_level}
use Rattle.pli_coding.specs.Images.{blocks_of, blocks_of_procedure, place_of_head, with_block, with_blocks}
use Rattle.program_places.specs.Programs.{IsReceiving, environment_for}

-- ---- what is among them

abbrev pub IsAmong : BlockPlace → List BlockPlace → Type 0
IsAmong b [] = ⊥
IsAmong b (c ∷ cs) = (b ≡ c) ⊎ IsAmong b cs

new_by :
    (q : Bool) (b c : BlockPlace) (cs rest : List BlockPlace) → IsAmong b rest →
    IsAmong b (cond q (b ∷ c ∷ cs) (c ∷ rest))
new_by true b c cs rest h = inl refl
new_by false b c cs rest h = inr h

among_new : (b : BlockPlace) (all : List BlockPlace) → IsAmong b (with_block b all)
among_new b [] = inl refl
among_new b (c ∷ cs) = new_by (nat_lt b.number c.number) b c cs (with_block b cs) (among_new b cs)

kept_by :
    (q : Bool) (b d c : BlockPlace) (cs rest : List BlockPlace) → IsAmong b (c ∷ cs) →
    (IsAmong b cs → IsAmong b rest) → IsAmong b (cond q (d ∷ c ∷ cs) (c ∷ rest))
kept_by true b d c cs rest h more = inr h
kept_by false b d c cs rest (inl e) more = inl e
kept_by false b d c cs rest (inr h) more = inr (more h)

among_kept : (b d : BlockPlace) (all : List BlockPlace) → IsAmong b all → IsAmong b (with_block d all)
among_kept b d [] h = absurd h
among_kept b d (c ∷ cs) h = kept_by (nat_lt d.number c.number) b d c cs (with_block d cs) h (λ h'. among_kept b d cs h')

among_all : (b : BlockPlace) (bs all : List BlockPlace) → IsAmong b all → IsAmong b (with_blocks bs all)
among_all b [] all h = h
among_all b (d ∷ bs) all h = among_all b bs (with_block d all) (among_kept b d all h)

among_with : (b : BlockPlace) (bs all : List BlockPlace) → IsAmong b bs → IsAmong b (with_blocks bs all)
among_with b [] all h = absurd h
among_with b (d ∷ bs) all (inl e) =
    among_all b bs (with_block d all) (subst (λ x. IsAmong b (with_block x all)) e (among_new b all))
among_with b (d ∷ bs) all (inr h) = among_with b bs (with_block d all) h

-- ---- their order

abbrev AllFrom : ℕ → List BlockPlace → Type 0
AllFrom n [] = ⊤
AllFrom n (c ∷ cs) = (n ≤ c.number) × AllFrom n cs

abbrev InOrder : List BlockPlace → Type 0
InOrder [] = ⊤
InOrder (b ∷ bs) = AllFrom b.number bs × InOrder bs

from_less : (m n : ℕ) (bs : List BlockPlace) → m ≤ n → AllFrom n bs → AllFrom m bs
from_less m n [] h all = tt
from_less m n (b ∷ bs) h all = (let a = all.0 in omega (arith, h, a), from_less m n bs h all.1)

from_by :
    (q : Bool) (n : ℕ) (b c : BlockPlace) (cs rest : List BlockPlace) → n ≤ b.number → AllFrom n (c ∷ cs) →
    AllFrom n rest → AllFrom n (cond q (b ∷ c ∷ cs) (c ∷ rest))
from_by true n b c cs rest h all more = (h, all)
from_by false n b c cs rest h all more = (all.0, more)

from_with :
    (n : ℕ) (b : BlockPlace) (all : List BlockPlace) → n ≤ b.number → AllFrom n all → AllFrom n (with_block b all)
from_with n b [] h all = (h, tt)
from_with n b (c ∷ cs) h all =
    from_by (nat_lt b.number c.number) n b c cs (with_block b cs) h all (from_with n b cs h all.1)

order_by :
    (q : Bool) (b c : BlockPlace) (cs : List BlockPlace) → nat_lt b.number c.number ≡ q → InOrder (c ∷ cs) →
    InOrder (with_block b cs) → InOrder (cond q (b ∷ c ∷ cs) (c ∷ with_block b cs))
order_by true b c cs e order more =
    let below : b.number ≤ c.number = grind (arith, nat_tests) in
    ((below, from_less b.number c.number cs below order.0), order)
order_by false b c cs e order more =
    let below : c.number ≤ b.number = grind (arith, nat_tests) in
    (from_with c.number b cs below order.0, more)

order_with : (b : BlockPlace) (all : List BlockPlace) → InOrder all → InOrder (with_block b all)
order_with b [] order = (tt, tt)
order_with b (c ∷ cs) order =
    order_by (nat_lt b.number c.number) b c cs refl order (order_with b cs order.1)

in_order : (bs all : List BlockPlace) → InOrder all → InOrder (with_blocks bs all)
in_order [] all order = order
in_order (b ∷ bs) all order = in_order bs (with_block b all) (order_with b all order)

all_in_order : (ps : List Y.Procedure) → InOrder (blocks_of ps)
all_in_order [] = tt
all_in_order (p ∷ ps) = in_order (blocks_of_procedure p.block) (blocks_of ps) (all_in_order ps)

-- ---- the last one of a level

last_by :
    (q p : Bool) (n number found there here : ℕ) → nat_le number n ≡ q → n ≤ number → found ≡ n →
    (number ≡ n → there ≡ n) → here ≡ n → cond (q && p) there here ≡ n
last_by true true n number found there here e h f more rest = more (grind (arith, nat_tests))
last_by true false n number found there here e h f more rest = rest
last_by false p n number found there here e h f more rest = rest

last_from :
    (n level found : ℕ) (bs : List BlockPlace) → AllFrom n bs → found ≡ n → last_of_level n level found bs ≡ n
last_from n level found [] all f = f
last_from n level found (c ∷ cs) all f =
    last_by (nat_le c.number n) (c.level == level) n c.number found _ _ refl all.0 f
    (λ same. last_from n level c.number cs all.1 same) (last_from n level found cs all.1 f)

either_way : (q : Bool) (x y n : ℕ) → x ≡ n → y ≡ n → cond q x y ≡ n
either_way true x y n e f = e
either_way false x y n e f = f

-- of a block among those in order
last_is :
    (b : BlockPlace) (found : ℕ) (bs : List BlockPlace) → InOrder bs → IsAmong b bs →
    last_of_level b.number b.level found bs ≡ b.number
last_is b found [] order h = absurd h
last_is b found (c ∷ cs) order (inl e) =
    let here : nat_le b.number b.number ≡ true = grind (arith, nat_tests) in
    let level = eq-eqb b.level b.level refl in
    let behind : last_of_level b.number b.level b.number cs ≡ b.number =
    last_from b.number b.level b.number cs (subst (λ (x : BlockPlace). AllFrom x.number cs) (sym e) order.0) refl in
    subst (λ (x : BlockPlace). last_of_level b.number b.level found (x ∷ cs) ≡ b.number) e
    (ap (λ q. cond (q && (b.level == b.level)) (last_of_level b.number b.level b.number cs)
    (last_of_level b.number b.level found cs)) here
    ∙ ap (λ q. cond q (last_of_level b.number b.level b.number cs) (last_of_level b.number b.level found cs)) level
    ∙ behind)
last_is b found (c ∷ cs) order (inr h) =
    either_way (nat_le c.number b.number && (c.level == b.level)) _ _ b.number (last_is b c.number cs order.1 h)
    (last_is b found cs order.1 h)

-- ---- the block of a procedure

head_among : (block : Y.Block) (bs : List BlockPlace) → IsAmong (place_of_head (head_of block))
    (with_blocks (blocks_of_procedure block) bs)
head_among (Y.BlockOf head body) bs =
    among_with (place_of_head head) (blocks_of_procedure (Y.BlockOf head body)) bs (inl refl)

found_by :
    (q : Bool) (p x : Y.Procedure) (o : Option Y.Procedure) (ps : List Y.Procedure) → cond q (Some p) o ≡ Some x →
    (o ≡ Some x → IsAmong (place_of_head (head_of x.block)) (blocks_of ps)) →
    IsAmong (place_of_head (head_of x.block)) (blocks_of (p ∷ ps))
found_by true p x o ps e rest =
    subst (λ (u : Y.Procedure). IsAmong (place_of_head (head_of u.block)) (blocks_of (p ∷ ps))) (same_Some p x e)
    (head_among p.block (blocks_of ps))
found_by false p x o ps e rest =
    among_all (place_of_head (head_of x.block)) (blocks_of_procedure p.block) (blocks_of ps) (rest e)

pub found_among :
    (number : ℕ) (x : Y.Procedure) (ps : List Y.Procedure) → procedure_numbered number ps ≡ Some x →
    IsAmong (place_of_head (head_of x.block)) (blocks_of ps)
found_among number x [] e = absurd (cc e)
found_among number x (p ∷ ps) e =
    found_by ((head_of p.block).number == number) p x (procedure_numbered number ps) ps e
    (λ e'. found_among number x ps e')

pub own_block :
    (program : Y.Program) (head : Y.BlockHead) (body : Y.Stmts) {parameters : List ℕ} (result : Option Y.LeafType) →
    IsReceiving program head body parameters result →
    block_around (environment_for program head) head.level ≡ head.number
own_block program head body {parameters} result is =
    last_is (place_of_head head) 0 (blocks_of program.procedures) (all_in_order program.procedures)
    (found_among head.number _ program.procedures is)
