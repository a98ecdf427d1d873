use Rattle.vm_tree.proofs.find.kid_in.Goals as goal

pub returns : goal.returns
returns g c = record { box = c.in-Some.kid; value = c.deref-kid.ensures; other = c.index-slots-i.result; is = c.in-Some.is }
