use Rattle.columns.proofs.Releases.{release_laws}
use Rattle.columns.proofs.release.compare_release.Goals as goal

pub returns-in_err-equal-clause-laws : goal.returns-in_err-equal-clause-laws
returns-in_err-equal-clause-laws c = release_laws c.args.stamp

pub returns-clause-laws : goal.returns-clause-laws
returns-clause-laws c = release_laws c.args.stamp
