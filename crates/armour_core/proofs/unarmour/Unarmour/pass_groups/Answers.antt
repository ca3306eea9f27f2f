use Rattle.std.proofs.Common.{sym, subst}
use Rattle.armour_core.specs.GroupState.{IsGroupState}
use Rattle.armour_core.proofs.ReadAtOnce.{groups_passed}
use Rattle.armour_core.proofs.unarmour.Unarmour.pass_groups.Goals as goal

pub invariant_of-self : goal.invariant_of-self
invariant_of-self c =
    let u = c.args.self.now in
    record {
      «open» = u.open;
      state = subst (λ n. IsGroupState u.group u.held n u.padded) (sym c.saturating_add-self.ensures) (groups_passed u.group u.held u.number c.args.count u.padded u.state c.requires.unpadded);
      room = u.room;
    }
