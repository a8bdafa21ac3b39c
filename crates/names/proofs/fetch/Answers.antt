use Rattle.names.proofs.FetchLaws.{fetch_none, fetch_value}
use Rattle.names.proofs.fetch.Goals as goal

pub returns-in-Ok : goal.returns-in-Ok
returns-in-Ok c = fetch_value _ _ (rw c.new.ensures at c.read_text.ensures) c.in-Ok.is

pub returns-in-Err : goal.returns-in-Err
returns-in-Err c = fetch_none _ _ (rw c.new.ensures at c.read_text.ensures) c.in-Err.is
