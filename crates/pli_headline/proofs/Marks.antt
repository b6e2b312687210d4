-- Where the start, the routines of raises and the procedure stand in the code of a program that is proved so far.
use Rattle.std.proofs.Common.{◌≡◌, ℕ, ◌+◌, ◌*◌, ◌≤◌, suc, List, [], ◌∷◌, ◌++◌, length, None, refl, sym, ap, ◌∙◌, subst, arith}
use Rattle.std.proofs.lemmas.Bool.{eq-eqb}
use Rattle.std.proofs.lemmas.List.{append-nil}
use Rattle.rv_meaning.specs.declared.instr.Instr.{Instr}
use Rattle.pli_typing.specs.TypedTree as Y
use Rattle.pli_coding.specs.Assembly.{Mark, Code, size_of, ProcedureEntry, RaiseCondition, RaiseError, ErrorEnd}
use Rattle.pli_coding.specs.Linking.{Links, MarkedPlace, marks_from, marked_place, place_of, links_of, data_start}
use Rattle.pli_coding.specs.StaticData.{static_data}
use Rattle.pli_coding.specs.Environments.{BlockPlace, Environment, none_taken}
use Rattle.pli_coding.specs.Statements.{stmts_code}
use Rattle.pli_coding.specs.Procedures.{finish_code, procedure_begun, procedure_ended, procedure_in, procedures_code, routines_of_block, routine_environment, routines_code}
use Rattle.pli_coding.specs.Images.{environment_of, raise_code, code_of, linked_code}
use Rattle.pli_headline.specs.ProvedSoFar.{ArePlain, AllPlain}
use Rattle.pli_headline.specs.Headline.{parts}
use Rattle.pli_headline.proofs.Scalars.{by_plain}
use Rattle.run_steps.specs.Engine.{most_code}
use Rattle.run_steps.proofs.Linking.{linked_length, has_items}
use Rattle.run_steps.specs.Items.{Linked}
use Rattle.run_steps.proofs.Jumps.{front_of, back_of}
use Rattle.code_marks.proofs.DataOnce.{placed_same}
use Rattle.pli_headline.proofs.DataOnce.{static_has}
use Rattle.pli_headline.proofs.Raising.{Routines}
use Rattle.pli_headline.proofs.MainProcedure.{main_head, IsAlone, main_environment, main_words, main_plain, main_held}
use Rattle.pli_headline.proofs.FirstFrame.{start_of, start_is, start_resume}

-- ---- the code has no other part

no_routines_of_block : (e : Environment) (index : ℕ) (ds : List Y.DeclaredVariable) → ArePlain ds → routines_of_block e index ds ≡ []
no_routines_of_block e index [] are = refl
no_routines_of_block e index (d ∷ ds) are =
    by_plain (λ u. routines_of_block e index (u ∷ ds) ≡ routines_of_block e (suc index) ds) (λ p i. refl) (λ i. refl) (λ n i. refl) (λ n i. refl) (λ type b bs i element are'. refl) d are.0
    ∙ no_routines_of_block e (suc index) ds are.1

no_routines : (e : Environment) (bs : List BlockPlace) → AllPlain e.program.variables → routines_code e bs ≡ []
no_routines e [] are = refl
no_routines e (b ∷ bs) are =
    ap (λ u. u ++ routines_code e bs) (no_routines_of_block (routine_environment b e) 0 _ (main_plain e.program b.number are))
    ∙ no_routines e bs are

-- behind the mark of its entry
abbrev pub behind_entry : Y.Program → (block line : ℕ) → Y.Stmts → Code
behind_entry program block line body =
    procedure_begun (main_environment program block) (main_head block line) (main_words program block body)
    (main_held program block body) []
    ++ (stmts_code (main_environment program block) none_taken body
    ++ procedure_ended (main_environment program block) (main_head block line) (main_words program block body)
    (main_held program block body) None)

-- that of the other procedures, in the environment of the whole program
abbrev pub others_code : Y.Program → List Y.Procedure → Code
others_code program others = procedures_code (environment_of parts program) others

abbrev pub main_code : Y.Program → (block line : ℕ) → Y.Stmts → List Y.Procedure → Code
main_code program block line body others =
    start_of block ++ (raise_code ++ ((Mark (ProcedureEntry block) ∷ behind_entry program block line body) ++ others_code program others))

pub code_is : (program : Y.Program) (block line : ℕ) (body : Y.Stmts) → AllPlain program.variables → (alone : IsAlone program block line body) → code_of parts program ≡ main_code program block line body alone.others
code_is program block line body all alone =
    let e = environment_of parts program in
    ap (λ u. u ++ (raise_code ++ (routines_code e e.blocks ++ procedures_code e program.procedures))) (start_is program block line body all alone)
    ∙ ap (λ u. start_of block ++ (raise_code ++ (u ++ procedures_code e program.procedures))) (no_routines e e.blocks all)
    ∙ ap (λ ps. start_of block ++ (raise_code ++ procedures_code e ps)) alone.are

-- without others that is all
pub only_main : (program : Y.Program) (block line : ℕ) (body : Y.Stmts) (others : List Y.Procedure) → others ≡ [] → main_code program block line body others ≡ start_of block ++ (raise_code ++ (Mark (ProcedureEntry block) ∷ behind_entry program block line body))
only_main program block line body others none =
    ap (main_code program block line body) none
    ∙ ap (λ u. start_of block ++ (raise_code ++ u)) (append-nil (Mark (ProcedureEntry block) ∷ behind_entry program block line body))

-- ---- what is marked

-- behind the start
abbrev raise_index : ℕ
raise_index = start_resume + size_of finish_code

abbrev entry_index : ℕ
entry_index = raise_index + size_of raise_code

record Marked (ms : List MarkedPlace) (block : ℕ) : Type 0 where
  condition : marked_place RaiseCondition ms ≡ 4 * raise_index
  error : marked_place RaiseError ms ≡ 4 * (raise_index + 8)
  end : marked_place ErrorEnd ms ≡ 4 * (raise_index + 16)
  entry : marked_place (ProcedureEntry block) ms ≡ 4 * entry_index

marked : (block : ℕ) (rest : Code) → Marked (marks_from 0 (start_of block ++ (raise_code ++ (Mark (ProcedureEntry block) ∷ rest)))) block
marked block rest =
    record { condition = refl; error = refl; end = refl; entry = rw (eq-eqb block block refl) refl }

-- ---- the whole

-- the procedures behind the first
abbrev pub others_of : List Y.Procedure → List Y.Procedure
others_of [] = []
others_of (p ∷ ps) = ps

-- where the parts of a program's code stand
pub record Placed (program : Y.Program) (block line : ℕ) (body : Y.Stmts) (links : Links) (code : List Instr) : Type 0 where
  pub start : Linked links code 0 (start_of block)
  pub routines : Routines links code
  pub entry : ℕ
  pub entry_is : place_of links (ProcedureEntry block) ≡ 4 * entry
  pub procedure : Linked links code entry (procedure_in (main_environment program block) (main_head block line) body [] None)
  pub behind : start_resume ≤ entry
  pub others : Linked links code (entry + size_of (procedure_in (main_environment program block) (main_head block line) body [] None)) (others_code program (others_of program.procedures))

whole_linked : (c : Code) → length (linked_code c) ≤ most_code → Linked (links_of c) (linked_code c) 0 c
whole_linked c h =
    let n = linked_length (links_of c) 0 c in
    record { small' = h; inside = omega (arith, n); has = has_items (links_of c) c refl; named = λ d h. placed_same d (data_start c) (static_data c) ∙ static_has c d h }

pub placed : (program : Y.Program) (block line : ℕ) (body : Y.Stmts) → AllPlain program.variables → IsAlone program block line body → length (linked_code (code_of parts program)) ≤ most_code → Placed program block line body (links_of (code_of parts program)) (linked_code (code_of parts program))
placed program block line body all alone small' =
    let c = code_of parts program in
    let links = links_of c in
    let code = linked_code c in
    let same = code_is program block line body all alone in
    let main = Mark (ProcedureEntry block) ∷ behind_entry program block line body in
    let others = others_code program alone.others in
    let p = main ++ others in
    let l : Linked links code 0 (start_of block ++ (raise_code ++ p)) = subst (Linked links code 0) same (whole_linked c small') in
    let l2 = back_of (start_of block) (raise_code ++ p) l in
    let m : Marked links.marks block = subst (λ u. Marked (marks_from 0 u) block) (sym same) (marked block (behind_entry program block line body ++ others)) in
    let end = m.end in
    record {
      start = front_of (start_of block) (raise_code ++ p) l;
      routines = record {
        at = raise_index;
        later = omega arith;
        linked = front_of raise_code p l2;
        condition = m.condition;
        error = m.error;
        end = omega (arith, end);
      };
      entry = entry_index;
      entry_is = m.entry;
      procedure = front_of main others (back_of raise_code p l2);
      behind = omega arith;
      others = subst (λ ps. Linked links code (entry_index + size_of main) (others_code program (others_of ps))) (sym alone.are) (back_of main others (back_of raise_code p l2));
    }
