use Rattle.called_units.proofs.Hosts.{hosts_known}
use Rattle.called_units.proofs.laws.hosts_known.Goals as goal

pub returns : goal.returns
returns c = hosts_known
