use Rattle.sheet.proofs.Accounts.{account}
use Rattle.sheet.proofs.sheet.Sheet.close.Goals as goal

pub returns-in-Some-clause-account : goal.returns-in-Some-clause-account
returns-in-Some-clause-account c = λ number h r. account number h c.args.self r

pub returns-in-None-clause-account : goal.returns-in-None-clause-account
returns-in-None-clause-account c = λ number h r. account number h c.args.self r
