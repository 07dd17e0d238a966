use Rattle.std.proofs.Common.{add-one, length-append, sym, ap, ◌∙◌, subst, ◌^◌, ◌-◌}
use Rattle.std.proofs.lemmas.Result.{err_from_is_err_and}
use Rattle.amplitude.specs.Ring.{rooted, Within}
use Rattle.equivalence.proofs.Pairing.{begun, row_turn, row_over, turn_told}
use Rattle.equivalence.proofs.Scanning.{row_told}
use Rattle.equivalence.proofs.Refusing.{unrefused}
use Rattle.equivalence.proofs.pair.Pair.scan_row.Goals as goal

pub column_reversed-xs-requires-clause-fit : goal.column_reversed-xs-requires-clause-fit
column_reversed-xs-requires-clause-fit c = (unrefused c.args.self.now.register.qubits c.args.self.now.c.gates.now c.args.self.now.d.gates.now c.args.self.now.taken).fit_c

pub column_reversed-ys-requires-clause-fit : goal.column_reversed-ys-requires-clause-fit
column_reversed-ys-requires-clause-fit c = (unrefused c.args.self.now.register.qubits c.args.self.now.c.gates.now c.args.self.now.d.gates.now c.args.self.now.taken).fit_d

pub loop-from-init : goal.loop-from-init
loop-from-init c = record {
  begun =
      begun c.args.self.now.register.qubits c.args.self.now.c.gates.now c.args.self.now.d.gates.now c.args.self.now.taken c.args.row c.requires.inside c.column_reversed-xs.result c.column_reversed-ys.result
      c.column_reversed-xs.ensures c.column_reversed-ys.ensures c.rows-width.result c.rows-width.ensures c.into_iter-from-iterator.result (cc) (cc) (cc);
  so_far = c.requires.so_far;
}

pub rooted-requires-clause-room : goal.rooted-requires-clause-room
rooted-requires-clause-room c =
    let t = row_turn c.loop-from.invariant.begun _ _ c.loop-from.yielded_by c.next.new.self c.next.result c.next.ensures.steps (c.in-Some.from, (c.in-Some.x, c.in-Some.y)) c.in-Some.is in
    subst (λ m. Within (2 ^ (61 - m)) c.in-Some.x.now) (sym c.args.self.now.d.is) t.x.room

pub rooted-requires-in-loop-from-clause-room : goal.rooted-requires-in-loop-from-clause-room
rooted-requires-in-loop-from-clause-room c =
    let t = row_turn c.loop-from.invariant.begun _ _ c.loop-from.yielded_by c.next.new.self c.next.result c.next.ensures.steps (c.in-Some.from, (c.in-Some.x, c.in-Some.y)) c.in-Some.is in
    subst (λ m. Within (2 ^ (61 - m)) c.in-Some.y.now) (sym c.args.self.now.c.is) t.y.room

pub tell-requires : goal.tell-requires
tell-requires c =
    let t = row_turn c.loop-from.invariant.begun _ _ c.loop-from.yielded_by c.next.new.self c.next.result c.next.ensures.steps (c.in-Some.from, (c.in-Some.x, c.in-Some.y)) c.in-Some.is in
    subst (Within (2 ^ 61)) (sym (c.rooted-in-loop-from.ensures ∙ ap (λ m. rooted m c.in-Some.y.now) c.args.self.now.c.is)) t.y.small

pub returns-in_err-told : goal.returns-in_err-told
returns-in_err-told c =
    let t = row_turn c.loop-from.invariant.begun _ _ c.loop-from.yielded_by c.next.new.self c.next.result c.next.ensures.steps (c.in-Some.from, (c.in-Some.x, c.in-Some.y)) c.in-Some.is in
    let p = err_from_is_err_and c.from_residual.result c.from_residual.ensures.1 in rw (p.1, p.2) (turn_told t _ _ c.requires.inside c.loop-from.invariant.so_far c.args.self.now.d.is c.args.self.now.c.is c.rooted.ensures c.rooted-in-loop-from.ensures c.in_err-told.ensures)

pub loop-from-preserved : goal.loop-from-preserved
loop-from-preserved c =
    let t = row_turn c.loop-from.invariant.begun _ _ c.loop-from.yielded_by c.next.new.self c.next.result c.next.ensures.steps (c.in-Some.from, (c.in-Some.x, c.in-Some.y)) c.in-Some.is in
    record {
      begun = c.loop-from.invariant.begun;
      so_far = rw (length-append c.loop-from.yielded _, add-one) (turn_told t _ _ c.requires.inside c.loop-from.invariant.so_far c.args.self.now.d.is c.args.self.now.c.is c.rooted.ensures c.rooted-in-loop-from.ensures c.in_ok-told.ensures);
    }

pub returns : goal.returns
returns c =
    rw add-one (row_told _ _ _ _ _
    (rw (row_over c.loop-from.invariant.begun _ _ c.loop-from.yielded_by c.next.new.self c.next.result c.next.ensures.steps c.in-None.is) at c.loop-from.invariant.so_far))
