-- What a store over a folder remembers of its files may cross threads: it has nothing but what clauses say of it.
use denote.Param.Send.{IsSend, owning_send}
use Rattle.real_edge.specs.contracts.past.Past.{the_row, the_type}

pub past-send : IsSend the_row
past-send = owning_send the_type tt (λ d. tt) (λ k d w. tt)
