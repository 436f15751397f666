pub mod PlansForPeople
