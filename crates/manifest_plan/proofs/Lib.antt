pub mod SectionsRead
pub mod StartLaws
pub mod PlanLaws
