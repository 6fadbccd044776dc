-- `writing::put_own` meets its contract: a kind of node at a time, by the laws of Own.antt.
use Rattle.writing.proofs.Own.{put_plain, put_join, put_flag, put_bound}
use Rattle.writing.proofs.put_own.Goals as goal

pub returns-in-Plain : goal.returns-in-Plain
returns-in-Plain c = put_plain c.in-Plain.is c.from.ensures c.put_each.ensures

pub returns-in-Join : goal.returns-in-Join
returns-in-Join c = put_join c.in-Join.is c.tag.ensures c.from-in-Join.ensures c.put_each-in-Join.ensures

pub returns-in-Flag : goal.returns-in-Flag
returns-in-Flag c = put_flag c.in-Flag.is c.tag-in-Flag.ensures c.from-in-Flag.ensures c.put_each-in-Flag.ensures

pub returns-in-Bound : goal.returns-in-Bound
returns-in-Bound c =
    put_bound c.in-Bound.is c.tag-in-Bound.ensures c.from-in-Bound.ensures c.from-in-Bound-2.ensures c.bound.ensures
    c.put_each-in-Bound.ensures
