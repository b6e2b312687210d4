-- Where the procedures inside the main one stand in the code: each whose number stands once among them is marked once, and is found by it.
use Rattle.std.proofs.Common.{◌≡◌, ℕ, suc, ◌+◌, ◌≤◌, List, [], ◌∷◌, ◌++◌, None, Some, Bool, true, false, refl, sym, ap, ◌∙◌, subst, arith}
use Rattle.std.specs.Prelude.{cond, ◌==◌}
use Rattle.std.proofs.lemmas.Bool.{eqb-true}
use Rattle.std.proofs.lemmas.Bool.Decides.{nat_tests}
use Rattle.rv_meaning.specs.declared.instr.Instr.{Instr}
use Rattle.pli_typing.specs.TypedTree as Y
use Rattle.pli_meaning.specs.Control.{Label}
use Rattle.pli_meaning.specs.DeclaredShapes.{procedure_numbered}
use Rattle.pli_coding.specs.Assembly.{Symbol, ProcedureEntry, ReturnPlace, size_of}
use Rattle.pli_coding.specs.Environments.{Environment, BlockPlace}
use Rattle.pli_coding.specs.Procedures.{procedure_environment, procedure_in, procedures_code}
use Rattle.pli_coding.specs.Images.{blocks_of, blocks_of_procedure}
use Rattle.pli_coding.specs.Linking.{Links}
use Rattle.pli_headline.specs.ProvedSoFar.{IsInner, AreInner, is_number, number_times, AllOnce}
use Rattle.run_steps.specs.Items.{Linked}
use Rattle.run_steps.proofs.Jumps.{front_of, back_of}
use Rattle.pli_headline.proofs.InnerLevels.{IsAmong, among_all, among_with}
use Rattle.pli_headline.proofs.Stands.{Stand, all_stands, EndsApart}
use Rattle.pli_headline.proofs.StatementMarks.{places_of}
use Rattle.pli_headline.proofs.ProcedureMarks.{block_symbols, procedure_symbols, symbol_times, inner_ends}
use Rattle.pli_headline.proofs.CallMeant.{plain_procedure}

-- ---- how often an entry is marked, and an end

-- labels and ends are none
pub entry_behind : (number block : ℕ) (ps : List Stand) (ss : List Symbol) → symbol_times (ProcedureEntry number) ((places_of ps ++ ReturnPlace block ∷ []) ++ ss) ≡ symbol_times (ProcedureEntry number) ss
entry_behind number block [] ss = refl
entry_behind number block ((m, Some l) ∷ ps) ss = entry_behind number block ps ss
entry_behind number block ((m, None) ∷ ps) ss = entry_behind number block ps ss

block_entries : (number : ℕ) (b : Y.Block) (ps : List Y.Procedure) → symbol_times (ProcedureEntry number) (procedure_symbols ps) ≡ number_times number ps → symbol_times (ProcedureEntry number) (block_symbols b ++ procedure_symbols ps) ≡ number_times number (record { block = b; parameters = []; result = None } ∷ ps)
block_entries number (Y.BlockOf head body) ps h =
    ap (λ n. cond (number == head.number) (suc n) n) (entry_behind number head.number (all_stands head.number body) (procedure_symbols ps) ∙ h)

pub entry_times : (number : ℕ) (ps : List Y.Procedure) → symbol_times (ProcedureEntry number) (procedure_symbols ps) ≡ number_times number ps
entry_times number [] = refl
entry_times number (p ∷ ps) = block_entries number p.block ps (entry_times number ps)

-- and their ends
pub ends_behind : (number block : ℕ) (ps : List Stand) (ss : List Symbol) → EndsApart number ps → symbol_times (ReturnPlace number) ((places_of ps ++ ReturnPlace block ∷ []) ++ ss) ≡ cond (number == block) (suc (symbol_times (ReturnPlace number) ss)) (symbol_times (ReturnPlace number) ss)
ends_behind number block [] ss apart = refl
ends_behind number block ((m, Some l) ∷ ps) ss apart = ends_behind number block ps ss apart
ends_behind number block ((m, None) ∷ ps) ss apart =
    let rest = symbol_times (ReturnPlace number) ((places_of ps ++ ReturnPlace block ∷ []) ++ ss) in
    ap (λ q. cond q (suc rest) rest) apart.0 ∙ ends_behind number block ps ss apart.1

pub ends_times : (number : ℕ) (program : Y.Program) (block : ℕ) (all : List (ℕ × Label)) (called : List ℕ) (ps : List Y.Procedure) → AreInner program block all called ps → symbol_times (ReturnPlace number) (procedure_symbols ps) ≡ number_times number ps
ends_times number program block all called [] inner = refl
ends_times number program block all called (p ∷ ps) inner =
    let q = inner.0 in
    subst (λ (r : Y.Procedure). symbol_times (ReturnPlace number) (procedure_symbols (r ∷ ps)) ≡ number_times number (r ∷ ps)) (sym q.is)
    (ends_behind number q.head.number (all_stands q.head.number q.body) (procedure_symbols ps) (inner_ends number q)
    ∙ ap (λ n. cond (number == q.head.number) (suc n) n) (ends_times number program block all called ps inner.1))

once_by : (q : Bool) (number n : ℕ) (ns : List ℕ) (others : List Y.Procedure) → (number == n) ≡ q → cond q true (is_number number ns) ≡ true → number_times n others ≡ 1 → (is_number number ns ≡ true → number_times number others ≡ 1) → number_times number others ≡ 1
once_by true number n ns others e among one more = subst (λ m. number_times m others ≡ 1) (sym (eqb-true number n e)) one
once_by false number n ns others e among one more = more among

pub called_once : (number : ℕ) (called : List ℕ) (others : List Y.Procedure) → AllOnce called others → is_number number called ≡ true → number_times number others ≡ 1
called_once number [] others once among = let no : false ≡ true = among in absurd (cc no)
called_once number (n ∷ ns) others once among =
    once_by (number == n) number n ns others refl among once.0 (λ h. called_once number ns others once.1 h)

-- ---- one of them

pub record InnerAt (e : Environment) (links : Links) (code : List Instr) (block : ℕ) (all : List (ℕ × Label)) (called : List ℕ) (number i : ℕ) (ps : List Y.Procedure) : Type 0 where
  pub procedure : Y.Procedure
  pub inner : IsInner e.program block all called procedure
  pub same : number ≡ inner.head.number
  pub found : procedure_numbered number ps ≡ Some (plain_procedure inner.head inner.body)
  pub at : ℕ
  pub after : i ≤ at
  pub linked : Linked links code at (procedure_in (procedure_environment inner.head e) inner.head inner.body [] None)
  pub known : (b : BlockPlace) → IsAmong b (blocks_of_procedure (Y.BlockOf inner.head inner.body)) → IsAmong b (blocks_of ps)

-- the first, or one behind it
found_by : (q : Bool) {e : Environment} {links : Links} {code : List Instr} {block : ℕ} {all : List (ℕ × Label)} {called : List ℕ} (number i m : ℕ) (p : Y.Procedure) (ps : List Y.Procedure) (inner : IsInner e.program block all called p) → (number == inner.head.number) ≡ q → number_times number (plain_procedure inner.head inner.body ∷ ps) ≡ suc m → Linked links code i (procedures_code e (plain_procedure inner.head inner.body ∷ ps)) → ((j : ℕ) → i ≤ j → number_times number ps ≡ suc m → Linked links code j (procedures_code e ps) → InnerAt e links code block all called number j ps) → InnerAt e links code block all called number i (plain_procedure inner.head inner.body ∷ ps)
found_by true {e} number i m p ps inner known times l more =
    let same : number ≡ inner.head.number = eqb-true number inner.head.number known in
    let again : (inner.head.number == number) ≡ true = grind (arith, nat_tests) in
    record {
      procedure = p;
      inner = inner;
      same = same;
      found = ap (λ t. cond t (Some (plain_procedure inner.head inner.body)) (procedure_numbered number ps)) again;
      at = i;
      after = omega arith;
      linked = front_of (procedure_in (procedure_environment inner.head e) inner.head inner.body [] None) (procedures_code e ps) l;
      known = λ b h. among_with b (blocks_of_procedure (Y.BlockOf inner.head inner.body)) (blocks_of ps) h;
    }
found_by false {e} number i m p ps inner known times l more =
    let mine = procedure_in (procedure_environment inner.head e) inner.head inner.body [] None in
    let apart : (inner.head.number == number) ≡ false = grind (arith, nat_tests) in
    let fewer : number_times number ps ≡ suc m = sym (ap (λ t. cond t (suc (number_times number ps)) (number_times number ps)) known) ∙ times in
    let o = more (i + size_of mine) (omega arith) fewer (back_of mine (procedures_code e ps) l) in
    let after = o.after in
    record {
      procedure = o.procedure;
      inner = o.inner;
      same = o.same;
      found = ap (λ t. cond t (Some (plain_procedure inner.head inner.body)) (procedure_numbered number ps)) apart ∙ o.found;
      at = o.at;
      after = omega (arith, after);
      linked = o.linked;
      known = λ b h. among_all b (blocks_of_procedure (Y.BlockOf inner.head inner.body)) (blocks_of ps) (o.known b h);
    }

pub inner_at : (e : Environment) {links : Links} {code : List Instr} {block : ℕ} {all : List (ℕ × Label)} (called : List ℕ) (number i m : ℕ) (ps : List Y.Procedure) → AreInner e.program block all called ps → number_times number ps ≡ suc m → Linked links code i (procedures_code e ps) → InnerAt e links code block all called number i ps
inner_at e called number i m [] are times l = absurd (cc times)
inner_at e {links} {code} {block} {all} called number i m (p ∷ ps) are times l =
    let q = are.0 in
    subst (λ (r : Y.Procedure). InnerAt e links code block all called number i (r ∷ ps)) (sym q.is)
    (found_by (number == q.head.number) number i m p ps q refl (subst (λ (r : Y.Procedure). number_times number (r ∷ ps) ≡ suc m) q.is times)
    (subst (λ (r : Y.Procedure). Linked links code i (procedures_code e (r ∷ ps))) q.is l)
    (λ j behind fewer l'. inner_at e called number j m ps are.1 fewer l'))
