use Rattle.std.proofs.Common.{◌≡◌, ◌<◌, [], ◌∷◌, map, length, arith}
use Rattle.std.proofs.lemmas.Bool.Decides.{nat_tests}
use Rattle.std.proofs.lemmas.List.{map-append}
use Rattle.pli_types.specs.View.{template_of}
use Rattle.pli_signatures.proofs.Numbers.{one_more_known}
use Rattle.pli_signatures.proofs.Tables.{one_more_read, all_read, behind_signature_short}
use Rattle.pli_signatures.proofs.signatures.Signatures.from_table.Goals as goal

pub loop-rest-smaller : goal.loop-rest-smaller
loop-rest-smaller c =
    let test = c.is_empty.ensures in
    let more : 0 < length c.loop-rest.rest.now = grind (arith, nat_tests, test, c.loop-rest-test.true, c.loop-rest-test.ensures) in
    rw c.in_ok-signature.ensures.rest (behind_signature_short c.loop-rest.rest.now more)

pub loop-rest-preserved : goal.loop-rest-preserved
loop-rest-preserved c =
    let test = c.is_empty.ensures in
    let more : 0 < length c.loop-rest.rest.now = grind (arith, nat_tests, test, c.loop-rest-test.true, c.loop-rest-test.ensures) in
    let list = c.in_ok-push-2.ensures.items in
    let wholes = c.in_ok-push.ensures.items in
    record {
      read = λ gs fit e.
          rw (list, map-append template_of c.loop-rest.list.items (c.in_ok-signature.signature ∷ []))
          (one_more_read (map template_of c.loop-rest.list.items) _ c.loop-rest.rest.now c.in_ok-signature.behind.now (template_of c.in_ok-signature.signature) more c.in_ok-signature.ensures.signature c.in_ok-signature.ensures.rest (c.loop-rest.invariant.read gs fit e));
      known = one_more_known c.loop-rest.list.items c.push-in-loop-rest.new.self.items c.in_ok-signature.signature c.loop-rest.wholes.items c.push.new.self.items c.is_whole.result c.loop-rest.invariant.known c.is_whole.ensures list wholes;
    }

pub returns : goal.returns
returns c =
    let test = c.is_empty.ensures in
    let none : length c.loop-rest.rest.now ≡ 0 = grind (arith, nat_tests, test, c.loop-rest-test.false, c.loop-rest-test.ensures) in
    λ gs fit e. all_read (map template_of c.loop-rest.list.items) _ c.loop-rest.rest.now none (c.loop-rest.invariant.read gs fit e)
