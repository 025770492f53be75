use Rattle.spki_service.proofs.openings.conditional_grant.Goals as goal

pub returns-clause-kept : goal.returns-clause-kept
returns-clause-kept c =
    let read = c.in_ok-read.ensures in
    record {
      read = c.in_ok-read.read;
      is = record {
        entries = read.entries;
        is = read.asked;
        policy = read.policy;
        nodes = read.nodes;
        work = read.work;
        counted = read.counted_all;
        answer = read.answer;
        few = read.few;
        short = read.short;
      };
      signed_are = c.in_ok-kept.ensures.0;
      grant_is = c.in_ok-kept.ensures.1;
    }
