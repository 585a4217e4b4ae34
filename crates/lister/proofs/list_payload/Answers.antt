-- `lister::list_payload` meets its contract: by what the load answered. Assumes nothing.
use borrow.Author.Rules.{rules}
use lib.ListN.{length}
use Rattle.lister.proofs.Payloads.{unreadable_listed, short_listed, loaded, loaded_listed}
use Rattle.lister.proofs.list_payload.Goals as goal

pub returns-in-Ok : goal.returns-in-Ok
returns-in-Ok c =
    loaded_listed c.args.payload.now c.args.replay.now c.args.text.now c.in-Ok.range c.load.new.replay _
    (loaded c.args.payload.now c.args.replay.now c.in-Ok.range c.load.new.replay (search rules) (search rules))
    c.list_entries.ensures

pub returns-in-Err-Unreadable : goal.returns-in-Err-Unreadable
returns-in-Err-Unreadable c =
    unreadable_listed c.args.payload.now c.args.text.now (length c.args.replay.now) _ _ (search rules) c.into.ensures
    c.list_refusal.ensures

pub returns-in-Err : goal.returns-in-Err
returns-in-Err c =
    short_listed c.in-Err.short c.args.payload.now c.args.text.now (length c.args.replay.now) (search rules)
    (search rules)
