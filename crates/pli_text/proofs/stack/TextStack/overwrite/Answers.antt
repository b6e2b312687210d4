use Rattle.std.proofs.Common.{◌≡◌, [], ◌+◌, ◌-◌, ◌≤◌, ◌∷◌, ◌++◌, ap, sym, ◌∙◌, length, take, drop}
use Rattle.std.proofs.Common.{arith, rules, append-nil}
use Rattle.std.proofs.lemmas.List.{places, with_items_is}
use Rattle.std.proofs.lemmas.List.{drop_all, drop_at, length-drop, length-take-le, take_all, take_at}
use Rattle.pli_meaning.specs.Texts.{fitted}
use Rattle.pli_text.specs.Operands.{top_of}
use Rattle.pli_text.specs.Pieces.{pieces}
use Rattle.pli_text.proofs.Cuts.{length-pieces, top-seen, changed-seen, start-within}
use Rattle.pli_text.proofs.stack.TextStack.overwrite.Goals as goal
use borrow.Rule.Slice.PartMut.{post_of}

pub returns : goal.returns
returns c =
    let ss = c.self.inside.starts.items in
    let bytes = c.self.inside.bytes.items in
    let x = c.index-start.result.now in
    let all = c.deref_mut.result.now in
    let t = c.args.text.now in
    let over = c.write_over.new.bytes in
    let count = length-pieces ss bytes in
    let newest : (c.len.result - 1) + 1 ≡ length ss = omega (arith, c.requires, ap length c.self.view_is) in
    let seen = c.args.self.now in
    let v = c.self.view_is in
    let o = c.self.invariant.0 in
    let top = top-seen ss bytes seen v o _ _ newest c.index-start.ensures in
    let within = start-within ss bytes seen v o _ _ newest c.index-start.ensures in
    let same = c.deref_mut.ensures.value in
    let inside : x ≤ length all = omega (arith, within, ap length same) in
    let whole : take (length all - x) (drop x all) ≡ drop x all =
    take_all (length all - x) (drop x all) (omega (arith, length-drop x all)) in
    let long : length (take (length all - x) (drop x all)) ≡ length (top_of c.args.self.now) =
    ap length whole ∙ ap (λ l. length (drop x l)) same ∙ ap length (sym top) in
    let rest = post_of x (length all - x) all in
    let none : rest ≡ [] = drop_all (length all - x) (drop x all) (omega (arith, length-drop x all)) in
    let behind : over ++ rest ≡ over = ap (λ l. over ++ l) none ∙ append-nil over in
    let front = length-take-le x all inside in
    ap (pieces ss) (with_items_is c.self.inside.bytes (take x all ++ (over ++ rest)) (search (rules, places)))
    ∙ changed-seen ss bytes c.args.self.now c.self.view_is c.self.invariant.0 _ _ newest c.index-start.ensures _
    (take_at (take x all) (over ++ rest) x front ∙ ap (take x) same)
    ∙ ap (λ l. l ∷ drop 1 c.args.self.now)
    (drop_at (take x all) (over ++ rest) x front ∙ behind ∙ c.write_over.ensures ∙ ap (λ n. fitted n t) long)
