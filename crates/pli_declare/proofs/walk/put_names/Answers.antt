use Rattle.std.proofs.Common.{◌≡◌, ◌++◌, ◌∷◌, [], ◌+◌, List, map, drop, length, get_or, ◌<◌, ◌≤◌, append-nil, subst, sym, ap, ◌∙◌}
use Rattle.pli_language.specs.declared.declaration.DeclaredName.{DeclaredName as DeclaredNameHeld}
use Rattle.std.proofs.lemmas.List.{map_push, drop_all}
use Rattle.pli_language.specs.View.{declared_name_of, declare_item_of}
use Rattle.pli_language.specs.Declarations.{Variable, Declaration, holders, holders_at, variable_declared, held, chain_after}
use Rattle.pli_declare.specs.Shown.{above_of, declaration_of}
use Rattle.pli_declare.proofs.Chains.{variables_at, drop_here, put_variable, chain_on}
use Rattle.pli_declare.proofs.walk.put_names.Goals as goal

pub loop-declared-preserved : goal.loop-declared-preserved
loop-declared-preserved c =
    let i = c.loop-declared.declared-index in
    let item = c.args.item.now in
    let v : Variable = record { declared = declared_name_of c.declared-item.result; item = declare_item_of item } in
    let chain : List Variable = above_of c.loop-declared.chain in
    let below : i < length item.names.items = subst (λ (xs : List DeclaredNameHeld). i < length xs) c.deref-declared-items.ensures.value c.loop-declared-test.true in
    let at : c.declared-item.result ≡ get_or item.names.items i c.declared-item.result = c.declared-item.is ∙ ap (λ (xs : List DeclaredNameHeld). get_or xs i c.declared-item.result) c.deref-declared-items.ensures.value in
    let vs : variables_at item (drop i item.names.items) ≡ v ∷ variables_at item (drop (i + 1) item.names.items) = ap (variables_at item) (drop_here item.names.items i c.declared-item.result below at) in
    let above : above_of c.in_ok-above.above ≡ holders chain v = c.in_ok-above.ensures.value ∙ ap (holders_at chain) c.level_of.ensures in
    let next : above_of c.in_ok-chain.field-0 ≡ holders chain v ++ v ∷ [] = c.in_ok-chain.ensures ∙ ap (λ u. u ++ v ∷ []) above in
    let put : map declaration_of c.push.new.self.items ≡ map declaration_of c.loop-declared.out.items ++ variable_declared (record { variable = v; above = holders chain v }) ∷ [] = ap (map declaration_of) c.in_ok-push.ensures.items ∙ map_push declaration_of c.loop-declared.out.items _ ∙ ap (λ u. map declaration_of c.loop-declared.out.items ++ variable_declared (record { variable = v; above = u }) ∷ []) above in
    record {
      put = put_variable _ _ _ chain _ v _ _ vs c.loop-declared.invariant.put next put;
      chain = chain_on _ chain _ v _ _ vs c.loop-declared.invariant.chain next;
    }

pub returns-clause-put : goal.returns-clause-put
unfolding held
returns-clause-put c =
    let names = c.args.item.now.names.items in
    let end : length names ≤ c.loop-declared.declared-index = subst (λ (xs : List DeclaredNameHeld). length xs ≤ c.loop-declared.declared-index) c.deref-declared-items.ensures.value c.loop-declared-test.false in
    let o : List Declaration = map declaration_of c.loop-declared.out.items in
    let left : List DeclaredNameHeld → List Declaration = λ u. o ++ map variable_declared (held (above_of c.loop-declared.chain) (variables_at c.args.item.now u)) in
    sym (append-nil o) ∙ ap left (sym (drop_all c.loop-declared.declared-index names end)) ∙ c.loop-declared.invariant.put

pub returns-clause-chain : goal.returns-clause-chain
unfolding chain_after
returns-clause-chain c =
    let names = c.args.item.now.names.items in
    let end : length names ≤ c.loop-declared.declared-index = subst (λ (xs : List DeclaredNameHeld). length xs ≤ c.loop-declared.declared-index) c.deref-declared-items.ensures.value c.loop-declared-test.false in
    let left : List DeclaredNameHeld → List Variable = λ u. chain_after (above_of c.loop-declared.chain) (variables_at c.args.item.now u) in
    ap left (sym (drop_all c.loop-declared.declared-index names end)) ∙ c.loop-declared.invariant.chain
